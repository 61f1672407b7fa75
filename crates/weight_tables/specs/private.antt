-- How weights are kept.
pub mod Marks
pub mod Index
pub mod Cells
pub mod Listed
pub mod Layered
pub mod Kept
pub mod Renewed
