-- Pairs put in place of a row.
pub mod Putting
