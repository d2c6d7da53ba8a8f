-- The file of a shelf's notes as the code writes it.
pub mod Files
pub mod Takes
pub mod Wide
