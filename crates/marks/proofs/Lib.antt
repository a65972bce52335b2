-- What belongs to no one function.
pub mod Small
pub mod Numbers
pub mod Fields
pub mod Held
pub mod Rows
pub mod SemiScheduled
pub mod Levels
pub mod MarkNumbers
