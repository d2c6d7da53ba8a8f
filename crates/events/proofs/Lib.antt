-- What the proofs of several functions share.
pub mod EventLoops
pub mod WindowLoops
pub mod TrackLoops
pub mod Storing
pub mod Spans
pub mod BucketLoops
pub mod BucketEvents
pub mod Sorting
pub mod TightLoops
