-- The groups of the cells left, by labels.
pub mod Labels
pub mod Finding
