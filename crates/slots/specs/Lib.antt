-- The working graph in two lent buffers.
pub mod Slots
pub mod Found
pub mod Working
