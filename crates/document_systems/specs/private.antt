-- What the code keeps. No public clause cites it.
pub mod Facts
pub mod NodeCounts
pub mod PartLaws
pub mod RowLaws
pub mod Rows
