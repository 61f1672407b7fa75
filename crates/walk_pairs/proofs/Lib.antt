mod WayLemmas
mod SetLemmas
mod LoweringLemmas
mod PairLemmas
mod FallLemmas
mod GivenLemmas
mod ReadLemmas
pub mod CallerLemmas
