-- What belongs to no one function.
pub mod Refusals
pub mod Order
pub mod Rules
pub mod Summaries
pub mod Tracks
pub mod Declarations
pub mod Conducts
pub mod Undispatched
pub mod Promised
