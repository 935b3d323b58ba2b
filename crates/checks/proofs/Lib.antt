-- The laws of the refusals and of the checks.
pub mod Rows
pub mod Places
pub mod Ascending
pub mod Forms
pub mod Parts
pub mod Layers
pub mod Accepted
pub mod Merge
pub mod Written
pub mod Answering
