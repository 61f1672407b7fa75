use Rattle.std.proofs.Common.{◌≡◌, ℕ, ◌<◌}
use Rattle.copy_weights.specs.Forms.{meet, form}
use Rattle.copy_weights.proofs.lists.has_meets.Given as goal

abbrev pub invariant-loop-k : goal.invariant-loop-k
invariant-loop-k l = (i : ℕ) → i < l.k → meet (form l.a i) (form l.b i) ≡ form l.a i
