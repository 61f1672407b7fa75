use Rattle.std.proofs.Common.{◌≡◌, ◌≤◌, length, drop}
use Rattle.saturation_core.specs.Seats.{seat_bits}
use Rattle.saturation_core.proofs.hands.seats_out.Given as goal

abbrev pub invariant-loop-left : goal.invariant-loop-left
invariant-loop-left g l = (l.left ≤ length l.out) × (l.bits ≡ seat_bits (drop l.left l.out))

abbrev pub decreases-loop-left : goal.decreases-loop-left
decreases-loop-left g l = l.left
