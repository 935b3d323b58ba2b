-- The laws of the first part of a call.
pub mod OnList
pub mod Starts
