pub mod Spots
pub mod GivenValues
pub mod Outcomes
pub mod HeldTests
pub mod HeldMoves
pub mod Depths
