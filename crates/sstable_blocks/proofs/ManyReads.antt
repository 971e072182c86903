-- Reads of many keys.
pub mod Needles
pub mod Rising
