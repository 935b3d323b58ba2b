-- Taking a step on the working graph.
pub mod Parts
pub mod Applying
