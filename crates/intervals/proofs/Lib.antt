-- What belongs to no one function. For the call: Locality, States, Surveys, Verdicts and Refusals. For the crates above: Places and Soundness.
-- For the reader: Headers, Masks and Jumps, where what the definitions say is said once more.
pub mod Locality
pub mod States
pub mod Surveys
pub mod Verdicts
pub mod Refusals
pub mod Places
pub mod Soundness
pub mod Headers
pub mod Masks
pub mod Jumps
