-- Merges: where lists are cut, what is held of sources, and who goes first.
pub mod Tournaments
pub mod Peeks
pub mod CutLaws
pub mod CutSteps
