-- The words of the crate's contracts, and in Outcomes those of the laws that tie its text to demand 3.
pub mod Items
pub mod Texts
pub mod Outcomes
pub mod Steps
