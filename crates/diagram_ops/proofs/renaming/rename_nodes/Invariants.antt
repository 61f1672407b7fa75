use Rattle.std.proofs.Common.{◌≡◌, map, take}
use Rattle.diagram_ops.specs.Renaming.{with_variable}
use Rattle.diagram_ops.proofs.renaming.rename_nodes.Given as goal

abbrev pub invariant-loop-branch : goal.invariant-loop-branch
invariant-loop-branch l = l.list.items ≡ map (with_variable l.names) (take l.branch-index l.nodes)
