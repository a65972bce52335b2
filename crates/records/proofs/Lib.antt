-- What belongs to no one function.
pub mod Bounds
pub mod Flags
