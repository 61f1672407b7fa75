mod Examples
mod StateLemmas
mod BuildingLemmas
mod PairLemmas
mod RankLemmas
pub mod CallerLemmas
