-- Tables in memory, written and listed.
pub mod Listed
pub mod Places
pub mod Written
