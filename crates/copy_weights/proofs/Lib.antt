mod Examples
mod LoopLemmas
mod MakingLemmas
mod ValueLemmas
pub mod CallerLemmas
