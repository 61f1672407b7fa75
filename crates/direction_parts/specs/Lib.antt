pub mod Places
pub mod Passes
pub mod Merges
pub mod Worths
