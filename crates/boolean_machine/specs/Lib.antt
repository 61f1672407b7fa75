pub mod Machine
pub mod Lawful
pub mod Picks
pub mod States
pub mod Tests
pub mod StateTests
