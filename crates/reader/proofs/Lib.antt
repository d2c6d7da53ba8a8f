-- What the proofs of several functions share.
pub mod ChunkLoops
pub mod Tallies
pub mod Messages
pub mod FirstPass
pub mod Silence
pub mod Sounds
pub mod Places
pub mod Replays
pub mod PlacingLoop
