-- What the code keeps. No public clause cites it.
pub mod Readers
pub mod Ways
pub mod Progress
