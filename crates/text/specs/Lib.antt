-- The words of the crate's contracts.
pub mod Numbers
pub mod Lines
pub mod Puts
pub mod Fields
pub mod Writers
