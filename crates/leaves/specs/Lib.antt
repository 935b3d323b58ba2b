-- A run of leaf steps at one cell.
pub mod Runs
