mod Weights
mod RowLemmas
mod TableLemmas
mod MeetingLemmas
mod PathLemmas
mod ClosingLemmas
mod RowTestLemmas
mod JobLemmas
mod PlaceLemmas
mod LawLemmas
mod OnceLemmas
mod OpeningBounds
mod RuleRunLemmas
mod LaterRuleLemmas
mod Examples
pub mod CallerLemmas
