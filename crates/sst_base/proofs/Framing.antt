-- Frames, handles and varints, byte by byte.
pub mod Frames
pub mod Handles
pub mod Passing
pub mod ShortVarints
