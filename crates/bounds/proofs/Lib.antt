-- The laws of the bounds of the search.
pub mod Quiet
pub mod Rings
