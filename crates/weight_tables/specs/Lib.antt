pub mod Growth
pub mod Entries
pub mod Tables
pub mod Turns
pub mod private
