-- What the code keeps.
pub mod Index
pub mod Room
pub mod Spread
