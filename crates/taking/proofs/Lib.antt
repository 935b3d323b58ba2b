-- The laws of taking a step.
pub mod Applied
