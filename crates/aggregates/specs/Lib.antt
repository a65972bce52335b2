-- The words of the crate's contracts.
pub mod Aggregates
pub mod Sizes
pub mod Views
