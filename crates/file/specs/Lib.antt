-- What load and write mean; load by what the track is read as; write by a shelf's words.
pub mod Calls
pub mod Loading
pub mod Writing
