-- Laws of `specs/`, each shown once.
pub mod Indices
pub mod Steps
pub mod Members
pub mod Walks
pub mod Regions
pub mod Layouts
