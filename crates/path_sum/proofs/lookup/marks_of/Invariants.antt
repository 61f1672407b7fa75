use Rattle.std.proofs.Common.{drop}
use Rattle.path_sum.proofs.LookupLemmas.{AreMarksBut}
use Rattle.path_sum.proofs.lookup.marks_of.Given as goal

abbrev pub invariant-loop-k : goal.invariant-loop-k
invariant-loop-k l = AreMarksBut l.marks.items (drop l.k l.set) l.set
