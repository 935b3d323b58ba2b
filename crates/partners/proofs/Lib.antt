-- The laws of the table of partners.
pub mod Tags
pub mod Joining
pub mod Tabled
pub mod Lacking
pub mod Filling
pub mod Entering
pub mod Held
