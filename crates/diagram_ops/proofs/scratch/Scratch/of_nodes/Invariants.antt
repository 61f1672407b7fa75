use Rattle.std.proofs.Common.{◌≡◌, take}
use Rattle.diagram_ops.proofs.scratch.Scratch.of_nodes.Given as goal

abbrev pub invariant-loop-k : goal.invariant-loop-k
invariant-loop-k l = l.scratch ≡ take l.k l.nodes
