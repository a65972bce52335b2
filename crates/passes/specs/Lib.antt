-- The words of the crate's contracts.
pub mod Passes
pub mod Seen
