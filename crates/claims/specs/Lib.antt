-- What the calls promise together, said of the files that they read and write: demand 3; what else they say of one
-- another's files; what a function that calls replay, lift and weigh is told; what tidy says of a raw list.
pub mod Demand
pub mod Claims
pub mod Asking
pub mod Tidied
