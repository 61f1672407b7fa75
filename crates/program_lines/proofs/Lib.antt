pub mod CallerLemmas
mod ListLemmas
mod LineLemmas
