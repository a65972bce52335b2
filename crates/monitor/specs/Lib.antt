-- The words of load's contract: demand 3, which reasons are told, and what is kept with aggregates.
pub mod Calls
pub mod History
pub mod Demands
pub mod Reasons
pub mod Restated
pub mod Targets
pub mod Loading
pub mod Examples
pub mod Bounds
