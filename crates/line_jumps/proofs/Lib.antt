pub mod PlaceLemmas
pub mod JumpLemmas
