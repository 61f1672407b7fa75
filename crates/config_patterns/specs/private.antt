-- What the code keeps.
pub mod Places
pub mod Symbols
pub mod Counted
