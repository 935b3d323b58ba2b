-- The work buffers lent to a call.
pub mod Buffers
pub mod Map
