-- What private functions cite.
pub mod Pushes
pub mod Rows
