-- The laws of groups by labels.
pub mod Sweeps
pub mod Classes
pub mod Labelling
pub mod Sweeping
pub mod Links
