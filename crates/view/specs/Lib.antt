-- The view of a lent list.
pub mod Serving
