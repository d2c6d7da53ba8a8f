-- Events as numbers, and what the reader answers.
pub mod Keys
pub mod Reading
pub mod Notes
