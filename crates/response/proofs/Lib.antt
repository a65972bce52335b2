-- What belongs to no one function.
pub mod Flags
pub mod Sums
pub mod Days
pub mod Values
pub mod Refusals
pub mod Files
