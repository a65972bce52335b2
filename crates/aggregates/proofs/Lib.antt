-- What belongs to no one function.
pub mod Small
pub mod Views
pub mod Held
pub mod Numbers
pub mod Levels
