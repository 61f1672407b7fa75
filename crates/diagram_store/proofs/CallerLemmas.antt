-- What crates above may cite.
pub use Rattle.diagram_store.proofs.FittingLemmas.{reduced_from_fitting}
pub use Rattle.diagram_store.proofs.MeaningLemmas.{from_parts, high_value, low_value}
pub use Rattle.diagram_store.proofs.NodeLemmas.{constant_below, no_node, node_there, node_within, one_node, option_cases}
pub use Rattle.diagram_store.proofs.SmallLemmas.{constant_canonical}
pub use Rattle.diagram_store.proofs.TurnLemmas.{leaves, leaves_none, left_node, reads_below, turn_below, turn_by_branches, turn_stays}
pub use Rattle.diagram_store.proofs.ValueLemmas.{same_cond, set_other, set_same, value_agrees, value_at_end, value_at_node}
pub use Rattle.diagram_store.proofs.WalkLemmas.{canonical_from_turned, canonical_is_one}
