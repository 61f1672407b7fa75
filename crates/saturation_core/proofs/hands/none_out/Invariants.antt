use Rattle.std.proofs.Common.{◌≡◌, ℕ, ◌<◌}
use Rattle.std.specs.Prelude.{None}
use Rattle.saturation_laws.specs.States.{hand_at}
use Rattle.saturation_core.proofs.hands.none_out.Given as goal

abbrev pub invariant-loop-h : goal.invariant-loop-h
invariant-loop-h g l = (k : ℕ) → k < l.h-index → hand_at k l.out ≡ None
