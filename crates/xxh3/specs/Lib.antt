pub mod Xxh3
pub mod Xxh3Laws
pub mod Pieces
pub mod Held
