mod Check
mod Heads
mod Search
mod Places
mod Writing
mod Items
