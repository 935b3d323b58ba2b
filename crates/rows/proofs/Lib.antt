-- The laws of the row of a chain or ring: the points of a path, its best, and the parts of the row.
pub mod Points
pub mod Best
pub mod Parts
