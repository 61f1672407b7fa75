-- What crates above may cite.
pub use Rattle.diagram_ops.proofs.KeepingLemmas.{keeps_above, keeps_both, keeps_same, keeps_value, keeps_within}
pub use Rattle.diagram_ops.proofs.PushLemmas.{keeps_push, node_last, node_old, node_push, reduced_push}
pub use Rattle.diagram_ops.proofs.RelationLemmas.{new_value, old_value, same_bits}
pub use Rattle.diagram_ops.proofs.VariableLemmas.{no_variables}
