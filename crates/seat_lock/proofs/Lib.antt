mod Lists
mod Moves
mod Turns
mod ClientLemmas
pub mod CallerLemmas
