pub mod Answering
pub mod Values
pub mod private
