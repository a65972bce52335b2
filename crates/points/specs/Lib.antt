-- The words of the crate's contracts.
pub mod Points
pub mod Records
pub mod Statuses
pub mod Counts
pub mod Layouts
