-- What the code keeps. No public clause cites it.
pub mod Diagrams
pub mod Frames
pub mod Moves
pub mod Steps
pub mod KeptNodes
