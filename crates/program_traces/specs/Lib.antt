pub mod Traces
pub mod private
pub mod Firsts
