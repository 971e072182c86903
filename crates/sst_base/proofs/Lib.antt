mod Hashes
mod Strings
mod Framing
