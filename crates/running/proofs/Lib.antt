-- The laws of the loop, of loading and of the short list.
pub mod Loading
pub mod Inserting
pub mod Listing
pub mod Course
pub mod Runs
pub mod LeafRuns
