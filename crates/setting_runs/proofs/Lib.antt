mod FitLemmas
mod RunLemmas
pub mod CallerLemmas
