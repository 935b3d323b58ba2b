-- The laws of a group gathered.
pub mod Runs
pub mod Gathering
