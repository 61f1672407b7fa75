use Rattle.std.proofs.Common.{arith}
use Rattle.witness_graph.proofs.graph.Graph.len.Goals as goal

pub returns-clause-limit : goal.returns-clause-limit
returns-clause-limit c = let small = c.self.inside.nodes.small in omega (arith, small)
