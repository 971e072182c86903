-- Encoders: what they have written, and the errors that they return.
pub mod Written
pub mod Endings
pub mod PointerOrders
pub mod BucketWrites
pub mod SharedParts
