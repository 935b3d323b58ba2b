-- The laws of pairs put in place of a row.
pub mod Putting
