-- The laws of the heaviest pairing of a set.
pub mod Places
pub mod Heaviest
pub mod Tried
pub mod Known
pub mod Taking
