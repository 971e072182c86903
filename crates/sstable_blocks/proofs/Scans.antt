-- Scans: windows within a range of keys, steps from both ends, and what is left to read.
pub mod SoundScans
pub mod ScanCounts
pub mod ScanSteps
pub mod ScanCuts
pub mod RunScans
pub mod EndSteps
pub mod EndReads
pub mod BlockTallies
pub mod EndCounts
pub mod OpenCounts
