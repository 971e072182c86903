-- Reads: of bytes that are sound, of any bytes, and by what a table keeps; and what they count.
pub mod FrameCounts
pub mod Answered
pub mod ByIndex
pub mod FileRanges
pub mod OpenedBlocks
pub mod Placed
