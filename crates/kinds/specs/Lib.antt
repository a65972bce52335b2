-- The words of the crate's contracts.
pub mod Kinds
