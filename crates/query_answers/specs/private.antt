-- What private functions cite.
pub mod Answered
pub mod Closed
