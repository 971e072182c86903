-- Byte strings: their order, what they share, and parts that are joined or copied in place.
pub mod FirstDifference
pub mod InPlace
pub mod Joined
pub mod LastItems
pub mod Orders
pub mod Shared
pub mod ShortSlices
