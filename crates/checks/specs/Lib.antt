-- The refusals, and the form of lists, slips and pairings.
pub mod Refusals
pub mod Calls
pub mod Answering
pub mod Loops
pub mod Merging
