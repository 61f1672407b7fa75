use Rattle.std.proofs.Common.{◌≡◌, ◌++◌, replicate}
use Rattle.state_text.proofs.owners.add_times.Given as goal

abbrev pub invariant-loop-time : goal.invariant-loop-time
invariant-loop-time l = l.owners.items ≡ l.fn.owners.items ++ replicate l._time l.place
