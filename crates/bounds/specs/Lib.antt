-- The bounds of the search.
pub mod Bounds
