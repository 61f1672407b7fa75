pub mod Agreement
pub mod Telling
