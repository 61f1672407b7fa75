pub mod Membership
pub mod Edges
pub mod Paths
pub mod Validity
pub mod Fault
pub mod private
