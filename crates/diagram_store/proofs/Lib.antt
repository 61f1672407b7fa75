mod NodeLemmas
mod ValueLemmas
mod MeaningLemmas
mod TurnLemmas
mod WalkLemmas
mod BitLemmas
mod FittingLemmas
mod SmallLemmas
mod ChainLemmas
pub mod CallerLemmas
