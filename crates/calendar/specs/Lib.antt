-- The words of the crate's contracts.
pub mod Dates
pub mod Ordinals
