-- The heaviest pairing of a set of at most 12 cells.
pub mod Sets
