mod FitLemmas
mod RowLemmas
pub mod CallerLemmas
