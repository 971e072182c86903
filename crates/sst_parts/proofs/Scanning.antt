-- Scans of parted tables: parts reached, and steps from both ends.
pub mod EndScans
pub mod PartEnds
pub mod PartedScans
pub mod PartSteps
pub mod Reaching
pub mod RefSteps
