pub mod Bits
pub mod HeldStates
pub mod Steps
pub mod private
