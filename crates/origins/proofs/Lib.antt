-- Laws of stamps.
pub mod Stamps
