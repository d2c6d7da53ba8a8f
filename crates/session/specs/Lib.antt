-- What the functions over a session's words answer and leave.
pub mod Entering
pub mod Reading
pub mod Sliced
pub mod Counting
pub mod Dividing
pub mod Listing
pub mod Framing
pub mod Running
pub mod Checking
pub mod Passing
pub mod Beside
