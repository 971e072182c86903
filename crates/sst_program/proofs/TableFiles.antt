-- Table files that are packed, read, walked and checked.
pub mod TableReads
pub mod TableFaults
pub mod Tables
