-- The table of partners.
pub mod Table
pub mod Entering
