-- What belongs to no one function.
pub mod Lines
pub mod Readings
pub mod Told
