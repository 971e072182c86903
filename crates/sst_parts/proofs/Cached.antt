-- Reads through caches.
pub mod CachedReads
pub mod Caching
pub mod PartsKept
