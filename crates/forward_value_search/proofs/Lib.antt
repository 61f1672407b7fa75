mod NumberLemmas
mod SumLemmas
mod EdgeLemmas
mod SettledLemmas
mod OnwardLemmas
mod ClosedLemmas
mod MeetLemmas
mod WalkLemmas
mod PlaceLemmas
mod LoopLemmas
mod RuleLoopLemmas
mod GiveLemmas
mod ReadLemmas
mod StepLemmas
mod SearchLemmas
mod ItemLemmas
mod WordLemmas
pub mod CallerLemmas
