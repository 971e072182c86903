-- Merges into parted tables: lists, and what a copier holds.
pub mod Lists
pub mod Held
pub mod Steps
pub mod Faults
