pub mod Merged
pub mod Scanned
pub mod Wanted
