use Rattle.std.proofs.Common.{◌≡◌, ◌++◌, replicate}
use Rattle.program_traces.proofs.widths.push_copies.Given as goal

abbrev pub invariant-loop-done : goal.invariant-loop-done
invariant-loop-done l = l.list.items ≡ l.fn.list.items ++ replicate l._done l.value
