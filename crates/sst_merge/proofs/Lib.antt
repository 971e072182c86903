mod Merging
mod Moving
