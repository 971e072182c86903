mod Leveled
mod Stored
