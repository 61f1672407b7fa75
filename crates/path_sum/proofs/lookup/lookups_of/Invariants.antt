use Rattle.std.proofs.Common.{◌≡◌, length}
use Rattle.path_sum.specs.private.Lookups.{EachIsLookup}
use Rattle.path_sum.proofs.lookup.lookups_of.Given as goal

abbrev pub invariant-loop-k : goal.invariant-loop-k
invariant-loop-k l = (length l.lookups.items ≡ l.k) × EachIsLookup l.lookups.items l.pattern.items
