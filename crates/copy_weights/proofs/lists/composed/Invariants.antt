use Rattle.std.proofs.Common.{◌≡◌, length}
use Rattle.copy_weights.specs.Forms.{put, form, tabulate}
use Rattle.copy_weights.proofs.lists.composed.Given as goal

abbrev pub invariant-loop-k : goal.invariant-loop-k
invariant-loop-k l = l.list.items ≡ tabulate l.k (λ k. put (length l.a) (form l.a) (form l.b k))
