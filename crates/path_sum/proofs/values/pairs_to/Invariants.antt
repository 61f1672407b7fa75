use Rattle.std.proofs.Common.{◌≡◌, ◌++◌, drop}
use Rattle.path_sum.specs.private.Ends.{pairs_to}
use Rattle.path_sum.proofs.values.pairs_to.Given as goal

abbrev pub invariant-loop-state : goal.invariant-loop-state
invariant-loop-state l = l.places.items ++ pairs_to l.ends (drop l.state-index l.states) ≡ pairs_to l.ends l.states
