use Rattle.std.proofs.Common.{◌≡◌, ◌+◌, ◌++◌, ◌∷◌, List, length}
use Rattle.witness_graph.specs.declared.node.Node.{Node}
use Rattle.witness_graph.specs.declared.node.Node.TheVariants.{Start}
use Rattle.tests_books.proofs.listings.short.Given as goal

abbrev pub invariant-loop-node : goal.invariant-loop-node
invariant-loop-node l = record {
  last : length l.sum.nodes ≡ l.last + 1;
  begins : (more : List Node) × (l.sum.nodes ≡ l.sum.graph.nodes ++ Start ∷ more);
}
