-- Weighing a pairing of a list.
pub mod Weigh
pub mod Merging
