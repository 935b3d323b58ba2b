-- Replaying a slip and reducing a list.
pub mod Calls
pub mod Writing
