-- What the paper's words mean, in its order. Read these files to know what the calls do; the laws stand in crate `laws`.
pub mod Lists
pub mod Limits
pub mod Pieces
pub mod Binding
pub mod Takes
pub mod Soundness
pub mod Histories
pub mod Session
pub mod Machine
pub mod Questions
pub mod Table
pub mod Shelves
pub mod Calls
pub mod Numbers
pub mod Answers
