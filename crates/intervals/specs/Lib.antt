-- The words of the crate's contracts.
pub mod Plants
pub mod Assessments
pub mod Monitors
pub mod Intervals
pub mod Passes
pub mod Units
pub mod Headers
