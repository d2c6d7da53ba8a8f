-- The bytes of events as the code writes them: of a track, of a window of it, and of those that stand in an output bucket by bucket.
pub mod Tracks
pub mod Windows
pub mod Stored
pub mod Emitting
pub mod Bucketing
pub mod Tight
