-- The row of a chain or ring, as words and marks.
pub mod Row
