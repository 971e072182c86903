-- Filters: the bits, the probes of a hash, and the numbers of a filter.
pub mod Bits
pub mod Counts
pub mod Probes
pub mod FilterTexts
