pub mod Answering
pub mod private
