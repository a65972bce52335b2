-- The words of the crate's contracts.
pub mod KeptLines
pub mod Errors
pub mod Levels
pub mod Assessments
pub mod Measures
pub mod Bounds
pub mod Hosts
pub mod Table
pub mod Numbers
