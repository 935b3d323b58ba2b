-- The way back on the table of partners.
pub mod Back
pub mod Unwinding
