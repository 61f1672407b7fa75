-- How cells are kept.
pub mod Chains
pub mod Links
