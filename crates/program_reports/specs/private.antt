pub mod Asked
pub mod Patterns
pub mod Verdicts
