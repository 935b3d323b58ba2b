-- The laws of tidy. Words: the call; Accepted, Again, Last: what it is worth, said of files; Worked: worked raw lists.
pub mod Words
pub mod Accepted
pub mod Again
pub mod Last
pub mod Worked
