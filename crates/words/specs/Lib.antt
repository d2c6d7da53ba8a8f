-- Lists of words: runs of places, writing a run, parts, and a loop that writes.
pub mod Apart
pub mod Splice
pub mod Parts
pub mod Writes
pub mod Sums
