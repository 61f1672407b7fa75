use Rattle.diagram_store.specs.declared.branch.Branch.{Branch}
use Rattle.std.proofs.Common.{List}
use Rattle.diagram_ops.specs.private.KeptResults.{AreRight}
use Rattle.diagram_ops.proofs.kept_results.spread.Given as goal

abbrev pub invariant-loop-k : goal.invariant-loop-k
invariant-loop-k l = (nodes : List Branch) → AreRight nodes l.fn.slots → AreRight nodes l.slots
