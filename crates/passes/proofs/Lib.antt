-- What belongs to no one function.
pub mod Looks
pub mod Stops
pub mod Passes
