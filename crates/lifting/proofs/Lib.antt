-- The laws of solve, lift and pair.
pub mod After
pub mod Pairs
pub mod Filing
pub mod Solves
pub mod Returning
pub mod Lifting
pub mod Tailing
pub mod Worked
