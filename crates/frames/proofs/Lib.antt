-- What the proofs of several functions share.
pub mod Decoding
pub mod Putting
pub mod Words
pub mod Lending
pub mod Carried
pub mod Numbers
pub mod Dispatch
pub mod Inputs
