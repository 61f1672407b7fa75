pub mod CallerLemmas
mod BlockLemmas
mod JudgingLemmas
mod RowLemmas
mod TableLemmas
mod WalkLemmas
