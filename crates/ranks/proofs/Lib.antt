-- What the loops have done.
pub mod Times
pub mod Ranking
pub mod Timing
pub mod Planning
