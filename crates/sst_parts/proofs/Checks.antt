-- Checks of parted tables, and reads of those that are known.
pub mod PartCheckLaws
pub mod PartCheckSteps
pub mod PartFinds
pub mod PartSummaries
