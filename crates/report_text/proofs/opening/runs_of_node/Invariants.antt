use Rattle.std.proofs.Common.{◌≡◌, ◌++◌, length}
use Rattle.witness_graph.specs.Runs.{runs_of}
use Rattle.report_text.specs.private.Opening.{stack_runs, IsStack}
use Rattle.report_text.proofs.opening.runs_of_node.Given as goal

abbrev pub invariant-runs : goal.invariant-runs
invariant-runs l = record {
  runs : l.runs.items ++ stack_runs (runs_of l.listing.side l.listing.nodes) l.stack.items ≡ runs_of l.listing.side l.listing.nodes l.root;
  within : IsStack (length l.totals) l.stack.items;
}

-- one run less is left
abbrev pub decreases-runs : goal.decreases-runs
decreases-runs l = length (stack_runs (runs_of l.listing.side l.listing.nodes) l.stack.items)
