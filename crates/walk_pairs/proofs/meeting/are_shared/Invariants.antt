use Rattle.std.proofs.Common.{◌≡◌, ℕ, ◌<◌, false, get_or}
use Rattle.config_patterns.specs.Membership.{has_symbol}
use Rattle.walk_pairs.proofs.meeting.are_shared.Given as goal

abbrev pub invariant-loop-k : goal.invariant-loop-k
invariant-loop-k l = (j : ℕ) → j < l.k → has_symbol (get_or l.set j 0) l.other ≡ false
