use Rattle.std.proofs.Common.{◌≡◌, ◌++◌, take}
use Rattle.path_sum.specs.private.Ends.{pairs_with}
use Rattle.path_sum.proofs.values.push_pairs.Given as goal

abbrev pub invariant-loop-end : goal.invariant-loop-end
invariant-loop-end l = l.places.items ≡ l.fn.places.items ++ pairs_with (take l.end-index l.ends) l.state
