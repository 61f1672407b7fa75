use Rattle.std.proofs.Common.{◌≡◌, take}
use Rattle.saturation_core.specs.Goals.{sums_of}
use Rattle.saturation_core.proofs.goals.sums.Given as goal

abbrev pub invariant-loop-i : goal.invariant-loop-i
invariant-loop-i g l = l.made.items ≡ sums_of (g.S.Semiring.operations l.semiring) (take l.i l.goals) (take l.i l.worths)
