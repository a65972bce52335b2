-- The words of the crate's contracts, and in Outcomes those of the laws that tie its text to what is promised of every list.
pub mod Items
pub mod Texts
pub mod Steps
pub mod Outcomes
