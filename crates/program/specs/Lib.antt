-- The words of the crate's contracts, and in Outcomes those of the law that ties a step to demand 3.
pub mod Steps
pub mod Outcomes
