-- Halves and joins of takes: what each function is asked, and what it leaves.
pub mod Making
pub mod Lasts
pub mod Halving
pub mod BothHalves
pub mod Joined
pub mod Seams
pub mod LaneNotes
pub mod Counting
