-- What crates above may cite.
pub use Rattle.genkill_weights.proofs.MakingLemmas.{where_fits, where_generates, where_kills, mask_where_fits, facts_where}
pub use Rattle.genkill_weights.proofs.EffectLemmas.{changes_facts, is_of_effects, equal_by_effects}
pub use Rattle.genkill_weights.proofs.WidthLemmas.{width_1, width_2, width_4, width_8, width_16, least_width, width_is_least}
pub use Rattle.genkill_weights.proofs.OperationLemmas.{Leaves, generates_combine, kills_combine, leaves_after, leaves_combine, leaves_extend, leaves_one, leaves_zero}
