pub mod Faults
pub mod Limits
pub mod Lists
