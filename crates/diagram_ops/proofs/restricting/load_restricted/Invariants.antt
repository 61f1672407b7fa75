use Rattle.std.proofs.Common.{◌≡◌, ◌+◌, length}
use Rattle.diagram_ops.specs.private.Images.{IsImage, IsRestricted}
use Rattle.diagram_ops.specs.private.Scratch.{Keeps}
use Rattle.diagram_ops.proofs.restricting.load_restricted.Given as goal

abbrev pub invariant-loop-k : goal.invariant-loop-k
invariant-loop-k l = record { count : length l.places.items ≡ l.k + 2; image : IsImage l.nodes (IsRestricted l.nodes l.var l.value) l.scratch l.places.items; keeps : Keeps l.initial.scratch l.scratch }
