-- The words of the crate's contracts.
pub mod Days
pub mod Ledgers
pub mod Calls
pub mod History
pub mod Promises
