-- The laws of replaying and reducing.
pub mod Ends
pub mod Replaying
pub mod Reducing
