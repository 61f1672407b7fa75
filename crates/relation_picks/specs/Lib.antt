pub mod Picks
pub mod private
