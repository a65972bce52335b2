-- Laws of `specs/`, each shown once.
pub mod Parts
pub mod Readings
pub mod Accepted
pub mod Refusals
