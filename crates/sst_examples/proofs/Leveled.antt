-- The levels of a store.
pub mod Newer
pub mod Levels
