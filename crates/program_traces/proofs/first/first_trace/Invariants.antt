use Rattle.std.proofs.Common.{length}
use Rattle.witness_graph.specs.Runs.{listing_runs}
use Rattle.program_traces.specs.private.Progress.{IsSoFar}
use Rattle.program_traces.proofs.first.first_trace.Given as goal

abbrev pub invariant-runs : goal.invariant-runs
invariant-runs l = IsSoFar l.lowering.system l.fn.limit (listing_runs l.listing) l.room l.left

-- one run less is left
abbrev pub decreases-runs : goal.decreases-runs
decreases-runs l = length l.left
