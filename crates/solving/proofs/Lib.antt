-- The laws of solving what is left.
pub mod Renaming
pub mod Placing
pub mod Joining
pub mod Groups
pub mod Left
