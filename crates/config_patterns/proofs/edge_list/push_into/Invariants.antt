use Rattle.std.proofs.Common.{◌≡◌, ◌++◌, take}
use Rattle.config_patterns.specs.Edges.{edges_into}
use Rattle.config_patterns.proofs.edge_list.push_into.Given as goal

abbrev pub invariant-loop-k : goal.invariant-loop-k
invariant-loop-k l = l.edges.items ≡ l.initial.edges.items ++ edges_into l.from l.to (take l.k l.set)
