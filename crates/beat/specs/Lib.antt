-- What the functions of the calls are asked, answer and leave.
pub mod Laying
pub mod Splitting
pub mod Joining
