-- The check of a payload: what a pass over its items knows, and what follows for its stages.
pub mod PassSteps
pub mod ItemStages
pub mod BucketTallies
pub mod KeyOrders
pub mod ItemReads
pub mod SharedLengths
