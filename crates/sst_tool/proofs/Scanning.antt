-- What scans of tables give, and where they end.
pub mod Follows
pub mod Limits
pub mod Prefixes
pub mod Passed
