-- What is written: blocks and their handles, index, filter and footer, and that they are a sound run.
pub mod CutLoops
pub mod Kept
pub mod Endings
pub mod BlockHandles
pub mod BlockFrames
pub mod LayoutCosts
pub mod SoundLayouts
