-- What the loops have done.
pub mod Counting
pub mod Putting
pub mod Outputs
pub mod Tables
pub mod Plans
