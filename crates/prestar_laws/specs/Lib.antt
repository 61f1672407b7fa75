pub mod Rows
pub mod Jobs
pub mod Reading
pub mod Fitting
pub mod Ways
pub mod LaterRules
