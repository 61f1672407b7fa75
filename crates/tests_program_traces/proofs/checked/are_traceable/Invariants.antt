use Rattle.std.proofs.Common.{length}
use Rattle.boolean_programs.specs.Programs.{program_of}
use Rattle.witness_graph.specs.Runs.{listing_runs}
use Rattle.tests_program_traces.specs.Checked.{AreTraced}
use Rattle.tests_program_traces.proofs.checked.are_traceable.Given as goal

abbrev pub invariant-runs : goal.invariant-runs
invariant-runs l = AreTraced (program_of l.program) l.lowering.system (listing_runs l.listing) l.left l.found

-- one run less is left
abbrev pub decreases-runs : goal.decreases-runs
decreases-runs l = length l.left
