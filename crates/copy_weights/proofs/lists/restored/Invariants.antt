use Rattle.std.proofs.Common.{◌≡◌, cond}
use Rattle.copy_weights.specs.Forms.{itself, has, form, tabulate}
use Rattle.copy_weights.proofs.lists.restored.Given as goal

abbrev pub invariant-loop-k : goal.invariant-loop-k
invariant-loop-k l = l.list.items ≡ tabulate l.k (λ k. cond (has l.vars k) (itself k) (form l.a k))
