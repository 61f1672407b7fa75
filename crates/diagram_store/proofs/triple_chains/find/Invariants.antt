use Rattle.std.proofs.Common.{length}
use Rattle.diagram_store.proofs.ChainLemmas.{Walks}
use Rattle.diagram_store.proofs.triple_chains.find.Given as goal

abbrev pub invariant-loop-at : goal.invariant-loop-at
invariant-loop-at l = Walks (length l.heads) l.entries (l.x, l.y, l.z) l.at

abbrev pub decreases-loop-at : goal.decreases-loop-at
decreases-loop-at l = l.at
