pub mod Tailing
pub mod private
