-- Searches: where a predicate changes from true to false, and which item is the first that is sought.
pub mod Cuts
pub mod Halves
pub mod HeadAnswers
pub mod Scans
pub mod SharedFronts
pub mod FirstMatches
pub mod Versions
