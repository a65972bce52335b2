-- Laws of `specs/`, each shown once.
pub mod Soundness
pub mod Stretches
pub mod Regions
