-- The words of the crate's contracts.
pub mod Targets
pub mod Compared
pub mod Walks
