-- Parted tables as they are written: the files of parts, and what is kept of them.
pub mod Blocks
pub mod Closings
pub mod Copies
pub mod Ends
pub mod Files
pub mod Footers
pub mod Joins
pub mod Kinds
pub mod Longer
pub mod Sounds
