mod FrameLemmas
mod DrawnLemmas
mod PathLemmas
mod RowLemmas
mod RowTestLemmas
mod TableLemmas
mod Weights
mod MeetingLemmas
mod ClosingLemmas
mod JobLemmas
mod OnceLemmas
mod PlaceLemmas
mod LawLemmas
mod Examples
pub mod CallerLemmas
