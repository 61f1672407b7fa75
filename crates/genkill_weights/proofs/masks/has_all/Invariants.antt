use Rattle.std.proofs.Common.{◌≡◌, ℕ, ◌<◌, ◌↔◌, get_or, bit_or}
use Rattle.genkill_weights.proofs.masks.has_all.Given as goal

abbrev pub invariant-loop-i : goal.invariant-loop-i
invariant-loop-i g l = (l.missing ≡ 0) ↔ ((k : ℕ) → k < l.i → bit_or (get_or l.a k 0) (get_or l.b k 0) ≡ get_or l.a k 0)
