-- Reads of parted tables: ranges of parts, openings and point reads.
pub mod AnyOpenings
pub mod CopiedTables
pub mod FileOpenings
pub mod Kinds
pub mod OpenParts
pub mod Openings
pub mod PartReads
pub mod Places
