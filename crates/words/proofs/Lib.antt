-- What the proofs of several functions share.
pub mod Copies
pub mod Summing
