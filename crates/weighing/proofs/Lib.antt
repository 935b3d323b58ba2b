-- The laws of weighing.
pub mod Matched
pub mod Weights
pub mod Worked
