use Rattle.std.proofs.Common.{◌≡◌}
use Rattle.diagram_store.specs.Meaning.{value_at, bits_of}
use Rattle.diagram_store.proofs.diagram.Diagram.value.Given as goal

abbrev pub invariant-loop-found : goal.invariant-loop-found
invariant-loop-found l = value_at l.self.nodes l.at (bits_of l.bits) ≡ value_at l.self.nodes l.self.root (bits_of l.bits)

abbrev pub decreases-loop-found : goal.decreases-loop-found
decreases-loop-found l = l.at
