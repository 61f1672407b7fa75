use Rattle.std.proofs.Common.{◌≡◌, ◌+◌, length}
use Rattle.diagram_ops.specs.private.Images.{IsImage, IsQuantified}
use Rattle.diagram_ops.specs.private.Scratch.{Keeps}
use Rattle.diagram_ops.specs.private.Applying.{AreApplied}
use Rattle.diagram_store.specs.TripleTables.{known}
use Rattle.diagram_ops.proofs.quantifying.load_quantified.Given as goal

abbrev pub invariant-loop-k : goal.invariant-loop-k
invariant-loop-k l = record { count : length l.places.items ≡ l.k + 2; image : IsImage l.nodes (IsQuantified l.nodes l.vars) l.scratch l.places.items; keeps : Keeps l.initial.scratch l.scratch; known : AreApplied 252 l.scratch (known l.results) }
