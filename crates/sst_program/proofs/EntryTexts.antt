-- Lines of entries, and inputs of them.
pub mod Cuts
pub mod EntryLaw
pub mod EntryLines
pub mod EntryParts
pub mod Inputs
