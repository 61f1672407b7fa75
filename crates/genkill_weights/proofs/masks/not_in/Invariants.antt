use Rattle.std.proofs.Common.{◌≡◌, ℕ, ◌<◌, ◌-◌, ◌^◌, length, get_or, bit_and}
use Rattle.genkill_weights.proofs.masks.not_in.Given as goal

abbrev pub invariant-loop-i : goal.invariant-loop-i
invariant-loop-i g l = record { count : length l.made ≡ g.row.N; each : (k : ℕ) → k < l.i → get_or l.made k 0 ≡ bit_and (get_or l.a k 0) (2 ^ 64 - 1 - get_or l.b k 0) }
