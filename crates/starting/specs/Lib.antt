-- The first part of every call with steps.
pub mod Steps
pub mod Starting
