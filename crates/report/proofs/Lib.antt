-- The laws of the printed text.
pub mod Decimal
pub mod Lines
pub mod Fields
pub mod Making
pub mod Printing
