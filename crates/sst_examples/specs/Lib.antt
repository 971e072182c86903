pub mod Levels
pub mod Tables
