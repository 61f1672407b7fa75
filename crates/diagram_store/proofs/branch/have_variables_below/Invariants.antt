use Rattle.std.proofs.Common.{◌≡◌, ℕ, ◌<◌}
use Rattle.std.specs.Prelude.{Some, slice_get}
use Rattle.diagram_store.specs.declared.branch.Branch.{Branch}
use Rattle.diagram_store.proofs.branch.have_variables_below.Given as goal

abbrev pub invariant-loop-branch : goal.invariant-loop-branch
invariant-loop-branch l = (k : ℕ) → k < l.branch-index → (n : Branch) → slice_get l.nodes k ≡ Some n → n.var < l.limit
