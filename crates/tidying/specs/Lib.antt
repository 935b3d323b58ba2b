-- What tidy answers and writes: Calls; the words of its claims: Said. Then what only the contracts of inner functions
-- cite.
pub mod Calls
pub mod Said
pub mod Words
