use Rattle.std.proofs.Common.{◌≡◌, take}
use Rattle.path_sum.proofs.lookup.copy_of.Given as goal

abbrev pub invariant-loop-k : goal.invariant-loop-k
invariant-loop-k l = l.copy.items ≡ take l.k l.set
