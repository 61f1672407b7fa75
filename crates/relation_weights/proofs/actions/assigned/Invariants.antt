use Rattle.std.proofs.Common.{◌≡◌, ℕ, Bool, ◌*◌, ◌&&◌, take}
use Rattle.diagram_store.specs.Nodes.{HasVariablesBelow}
use Rattle.diagram_ops.specs.Relations.{relates}
use Rattle.relation_weights.specs.Actions.{frame_pairs}
use Rattle.relation_weights.specs.Actions.{numbers}
use Rattle.relation_weights.proofs.ActionLemmas.{all_become}
use Rattle.relation_weights.proofs.actions.assigned.Given as goal

abbrev pub invariant-loop-k : goal.invariant-loop-k
invariant-loop-k l = record {
  pairs : (x y : ℕ → Bool) → relates l.made x y ≡ (frame_pairs l.n (numbers l.targets) x y && all_become (take l.k l.targets) x y);
  variables : HasVariablesBelow (2 * l.n) l.made.nodes;
}
