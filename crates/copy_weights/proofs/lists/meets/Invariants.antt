use Rattle.std.proofs.Common.{◌≡◌}
use Rattle.copy_weights.specs.Forms.{meet, form, tabulate}
use Rattle.copy_weights.proofs.lists.meets.Given as goal

abbrev pub invariant-loop-k : goal.invariant-loop-k
invariant-loop-k l = l.list.items ≡ tabulate l.k (λ k. meet (form l.a k) (form l.b k))
