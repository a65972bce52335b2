-- The words of the crate's contracts.
pub mod Intervals
pub mod Records
