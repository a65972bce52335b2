-- The words of the crate's contracts.
pub mod Triggers
pub mod Bounds
