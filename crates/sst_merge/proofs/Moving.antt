-- Merges that are moved: windows of merges, and the ends of lists in blocks and of tables.
pub mod MovableLaws
pub mod MovedLaws
pub mod SortedCounts
pub mod BlockPlaces
pub mod BlockCounts
pub mod BlockEnds
pub mod BlockStarts
pub mod TableEnds
pub mod TableFrames
pub mod SoundTables
