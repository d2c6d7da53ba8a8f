-- The events of notes in the order of the file.
pub mod Queues
pub mod Events
pub mod Notes
pub mod Runs
pub mod Whole
pub mod Windows
pub mod Gathering
pub mod Blocks
pub mod Taking
pub mod Steps
