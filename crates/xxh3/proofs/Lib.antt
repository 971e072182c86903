pub mod Steps
pub mod EightLanes
pub mod SameBytes
pub mod Keeping
pub mod StandardFacts
