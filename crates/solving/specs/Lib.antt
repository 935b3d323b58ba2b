-- Solving what is left in the slots, group by group.
pub mod Left
pub mod Joined
