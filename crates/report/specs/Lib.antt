-- The text that the program prints.
pub mod Printed
pub mod Writing
