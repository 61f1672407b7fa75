-- What the code keeps. No public clause cites it.
pub mod Scratch
pub mod Copying
pub mod Places
pub mod Applying
pub mod Images
pub mod Composing
pub mod ShortCuts
pub mod TableNodes
pub mod KeptResults
pub mod Tables
pub mod Uniting
pub mod TableCopying
