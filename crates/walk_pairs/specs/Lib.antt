pub mod Ways
pub mod Pairs
pub mod Lowerings
pub mod Giving
pub mod Reading
pub mod Answering
pub mod private
