-- Events spread over an output by their time.
pub mod Buckets
pub mod Shorts
pub mod Plans
pub mod Places
pub mod Bases
