-- The sum of bytes and the polynomial hash, several bytes in a step.
pub mod FourHashes
pub mod Fours
pub mod Lanes
pub mod Polynomials
pub mod Remainders
pub mod Sums
