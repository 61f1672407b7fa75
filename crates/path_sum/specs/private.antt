-- What the code keeps.
pub mod Inputs
pub mod Paths
pub mod Work
pub mod Growing
pub mod Lookups
pub mod Ends
pub mod Rounds
