-- Solving what a slip leaves, lifting a pairing through a slip, and pairing a list.
pub mod Calls
pub mod Ending
pub mod Tail
pub mod Lifting
