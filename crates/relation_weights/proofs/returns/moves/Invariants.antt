use Rattle.std.proofs.Common.{◌≡◌, ℕ, Bool, ◌*◌, ◌&&◌, slice_index_or}
use Rattle.diagram_store.specs.Nodes.{HasVariablesBelow}
use Rattle.diagram_ops.specs.Relations.{relates}
use Rattle.relation_laws.specs.States.{each_below}
use Rattle.relation_weights.specs.declared.rel_map.Slot.TheVariants.{Caller}
use Rattle.relation_weights.specs.Actions.{frame_pairs}
use Rattle.relation_weights.specs.private.Moves.{far_bit}
use Rattle.relation_weights.proofs.returns.moves.Given as goal

abbrev pub invariant-loop-v : goal.invariant-loop-v
invariant-loop-v l = record {
  pairs : (x y : ℕ → Bool) → relates l.made x y ≡ (frame_pairs l.n l.freed x y && each_below l.v (λ k. far_bit k (slice_index_or l.slots k Caller) x (y k)));
  variables : HasVariablesBelow (2 * l.n) l.made.nodes;
}
