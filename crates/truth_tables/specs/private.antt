-- What the code keeps. No public clause cites it.
pub mod Shapes
pub mod Trees
pub mod Depths
pub mod Kept
