-- The loop of replay and reduce.
pub mod Course
pub mod Running
pub mod Pairs
pub mod Loads
