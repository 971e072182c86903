-- Lists of entries in blocks: their joined list, their ends, and a search over these.
pub mod Cuts
pub mod Mapped
