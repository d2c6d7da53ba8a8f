-- Events written straight to their places in a track.
pub mod Times
pub mod Places
