use Rattle.std.proofs.Common.{◌≡◌, length}
use Rattle.witness_graph.specs.Runs.{runs_of}
use Rattle.report_text.specs.private.Opening.{stack_runs, stack_steps, IsStack}
use Rattle.report_text.proofs.walking.next_within.Given as goal

abbrev pub invariant-walk : goal.invariant-walk
invariant-walk l = record {
  runs : stack_runs (runs_of l.listing.side l.listing.nodes) l.stack.items ≡ stack_runs (runs_of l.listing.side l.listing.nodes) l.initial.stack.items;
  within : IsStack (length l.totals) l.stack.items;
}

abbrev pub decreases-walk : goal.decreases-walk
decreases-walk l = stack_steps l.stack.items
