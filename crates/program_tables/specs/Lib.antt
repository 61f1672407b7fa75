pub mod Blocks
pub mod Judging
pub mod Tables
pub mod private
