pub mod Lanes
pub mod Numbers
pub mod Events
pub mod Sounding
pub mod Reading
pub mod Writing
pub mod Examples
