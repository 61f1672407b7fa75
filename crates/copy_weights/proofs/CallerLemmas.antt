-- What crates above may cite.
pub use Rattle.copy_weights.specs.private.SetLaws.{has_above, sets_same_below}
pub use Rattle.copy_weights.proofs.MakingLemmas.{changes_fit}
