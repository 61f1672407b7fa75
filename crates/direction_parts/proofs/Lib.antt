mod PassLemmas
mod MergeLemmas
mod MadeLemmas
mod LabelLemmas
mod EdgeLemmas
mod WeightLemmas
pub mod CallerLemmas
