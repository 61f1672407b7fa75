use Rattle.std.proofs.Common.{◌≡◌, ℕ, ◌<◌}
use Rattle.copy_weights.specs.Forms.{itself, form}
use Rattle.copy_weights.proofs.lists.is_identity.Given as goal

abbrev pub invariant-loop-k : goal.invariant-loop-k
invariant-loop-k l = (i : ℕ) → i < l.k → itself i ≡ form l.a i
