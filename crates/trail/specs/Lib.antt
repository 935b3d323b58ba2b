-- The trail, and a row taken onto it.
pub mod Trail
pub mod Taking
