-- What belongs to no one function.
pub mod Lengths16
pub mod Levels
pub mod Statuses
pub mod Outcomes
pub mod Counts
pub mod Layouts
