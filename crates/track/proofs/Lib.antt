-- What the proofs of several functions share.
pub mod Groups
pub mod Messages
pub mod ReadGroups
pub mod Parts
