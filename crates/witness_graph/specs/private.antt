-- What the code keeps.
pub mod Packing
pub mod Walking
pub mod Paging
