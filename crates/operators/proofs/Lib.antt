-- What belongs to no one function. For the calls: Operated and Refusals. For the crates above: Soundness.
pub mod Operated
pub mod Refusals
pub mod Soundness
