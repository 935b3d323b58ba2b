-- Finding a step on the working graph.
pub mod Walks
pub mod Rows
pub mod Finding
