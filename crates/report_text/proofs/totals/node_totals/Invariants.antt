use Rattle.std.proofs.Common.{◌≡◌, length}
use Rattle.witness_graph.specs.Runs.{runs_of}
use Rattle.report_text.specs.private.Counting.{AreCounted}
use Rattle.report_text.proofs.totals.node_totals.Given as goal

abbrev pub invariant-loop-node : goal.invariant-loop-node
invariant-loop-node l = record {
  len : length l.totals.items ≡ l.node-index;
  counted : AreCounted l.totals.items (runs_of l.listing.side l.listing.nodes);
}
