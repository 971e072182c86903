mod Writing
mod Reading
mod Scanning
mod Cached
mod Checks
mod Merged
