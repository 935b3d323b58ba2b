-- The laws of a run of leaf steps.
pub mod Owing
pub mod Slacks
pub mod Noting
pub mod Passing
