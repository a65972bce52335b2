-- What belongs to no one function.
pub mod Months
pub mod Years
pub mod Places
pub mod Later
pub mod Finds
pub mod Order
