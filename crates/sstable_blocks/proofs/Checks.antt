-- The check of a whole run, and its summary.
pub mod RunSummaries
pub mod RunCheckLaws
pub mod RunCheckSteps
