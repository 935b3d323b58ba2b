-- The laws of the way back.
pub mod Mating
pub mod Stamping
pub mod Marking
pub mod Freeing
pub mod Undoing
pub mod Closing
pub mod Backing
