-- What the proofs of several functions share.
pub mod Keys
pub mod Shelves
pub mod Written
pub mod FewNotes
pub mod Ranked
pub mod Parts
pub mod InPlace
