-- What a line of input stands for, and what is answered.
pub mod Digits
pub mod Lines
pub mod Decoded
pub mod Answers
pub mod Calling
pub mod Answering
pub mod Input
pub mod Whole
pub mod Blocks
pub mod Lent
pub mod Loop
pub mod Examples
