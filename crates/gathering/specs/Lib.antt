-- A group gathered for crate sets.
pub mod Gathered
