-- The laws of the words of a buffer.
pub mod Same
pub mod Filled
