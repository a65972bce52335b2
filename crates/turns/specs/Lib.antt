-- What a step of a run promises, whatever its state is.
pub mod Steps
