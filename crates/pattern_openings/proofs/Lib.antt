mod ReadLemmas
mod EdgeLemmas
mod StateLemmas
mod OverLemmas
mod JointLemmas
mod Examples
pub mod CallerLemmas
