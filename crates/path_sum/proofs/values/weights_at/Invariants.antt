use Rattle.std.proofs.Common.{◌≡◌, take}
use Rattle.path_sum.specs.private.Ends.{weights_at}
use Rattle.path_sum.proofs.values.weights_at.Given as goal

abbrev pub invariant-loop-place : goal.invariant-loop-place
invariant-loop-place g l = l.weights.items ≡ weights_at (g.S.Semiring.operations l.semiring) l.sums.transitions (take l.place-index l.places)
