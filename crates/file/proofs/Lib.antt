-- What the proofs of several functions share.
pub mod Entries
pub mod Writes
pub mod Answers
pub mod LaidRecordings
pub mod Loads
