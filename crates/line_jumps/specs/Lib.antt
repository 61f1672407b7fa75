pub mod Jumps
pub mod private
