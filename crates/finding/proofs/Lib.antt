-- The laws of finding a step.
pub mod Walks
pub mod Turned
pub mod Ways
pub mod Rowed
pub mod Lower
pub mod Scans
pub mod Told
pub mod Gone
