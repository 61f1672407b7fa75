use Rattle.std.proofs.Common.{◌≡◌, ◌-◌, length, drop}
use Rattle.boolean_meaning.specs.private.HeldMoves.{same_held_frames}
use Rattle.boolean_meaning.proofs.moving.same_frames.Given as goal

abbrev pub decreases-loop-at_a : goal.decreases-loop-at_a
decreases-loop-at_a l = length l.a - l.at_a

abbrev pub invariant-loop-at_a : goal.invariant-loop-at_a
invariant-loop-at_a l = same_held_frames (drop l.at_a l.a) (drop l.at_b l.b) ≡ same_held_frames (drop l.fn.from_a l.fn.a) (drop l.fn.from_b l.fn.b)
