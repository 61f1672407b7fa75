use Rattle.std.proofs.Common.{◌≡◌, ℕ, ◌<◌, length, get_or}
use Rattle.genkill_weights.specs.GenKill.{gens_word}
use Rattle.genkill_weights.proofs.masks.generated.Given as goal

abbrev pub invariant-loop-i : goal.invariant-loop-i
invariant-loop-i g l = record { count : length l.made ≡ g.row.N; each : (k : ℕ) → k < l.i → get_or l.made k 0 ≡ gens_word (get_or l.gens k 0) (get_or l.next_keep k 0) (get_or l.next_gens k 0) }
