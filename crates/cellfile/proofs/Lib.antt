-- The laws of the files, and (in folders named after them) the proofs of the functions.
pub mod All
pub mod Numbers
pub mod Bytes
pub mod Fields
pub mod RoundTrip
pub mod Walk
pub mod Lists
pub mod Outputs
pub mod Worked
