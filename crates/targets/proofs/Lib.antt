-- What belongs to no one function.
pub mod Walks
pub mod Lines
pub mod Compared
pub mod Sums
