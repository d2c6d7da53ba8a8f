-- Lists of calls, and what they leave; the round trip of a shelf's file.
pub mod Lists
pub mod Steps
pub mod Claim
pub mod Reached
pub mod RoundTrip
pub mod Rewriting
