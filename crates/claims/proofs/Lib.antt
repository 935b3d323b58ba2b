-- The laws of what the calls say together.
pub mod Slips
pub mod Demand
pub mod Origins
pub mod Claims
pub mod Crowds
pub mod Solved
pub mod Paired
pub mod Answers
pub mod Telling
pub mod Tidied
