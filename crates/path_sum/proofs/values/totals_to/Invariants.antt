use Rattle.std.proofs.Common.{◌≡◌, map, take}
use Rattle.path_sum.specs.private.Ends.{total_to}
use Rattle.path_sum.proofs.values.totals_to.Given as goal

abbrev pub invariant-loop-set : goal.invariant-loop-set
invariant-loop-set g l = l.totals.items ≡ map (total_to (g.S.Semiring.operations l.semiring) l.sums.transitions l.ends) (take l.set-index l.sets)
