-- The laws of the trail, and of a row taken onto it.
pub mod Trail
pub mod TakenRow
