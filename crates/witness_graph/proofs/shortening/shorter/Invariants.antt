use Rattle.std.proofs.Common.{◌≡◌, length, ◌++◌, take, drop}
use Rattle.witness_graph.specs.Shorter.{shorten, made_short}
use Rattle.witness_graph.proofs.ShorterLemmas.{IsShort}
use Rattle.witness_graph.proofs.shortening.shorter.Given as goal

abbrev pub invariant-loop-node : goal.invariant-loop-node
invariant-loop-node l = record {
  graph : l.whole.graph ≡ l.graph;
  short : IsShort (length l.graph.nodes) l.whole.graph.side (l.graph.nodes ++ take l.node-index l.added) l.whole.nodes l.stands.items;
  rest : shorten (length l.graph.nodes) l.whole.nodes l.stands.items (drop l.node-index l.added) ≡ made_short l.graph.nodes l.added;
}
