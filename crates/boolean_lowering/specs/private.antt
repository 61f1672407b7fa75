pub mod Layouts
pub mod Spots
pub mod Tables
pub mod Ways
pub mod Effects
pub mod Sources
pub mod Made
