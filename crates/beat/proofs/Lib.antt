pub mod Makes
pub mod Opens
pub mod Asks
pub mod Lays
pub mod Calls
pub mod Splits
pub mod Joins
