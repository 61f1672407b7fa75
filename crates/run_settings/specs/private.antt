-- What the code keeps. No public clause cites it.
pub mod Moments
pub mod Links
pub mod Walks
pub mod Progress
