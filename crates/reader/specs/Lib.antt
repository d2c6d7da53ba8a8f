-- Where a file's track is; what the code counts of it, and how it puts its notes.
pub mod Chunks
pub mod Tables
pub mod Counting
pub mod CountingSteps
pub mod Placing
