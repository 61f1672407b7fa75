use Rattle.std.proofs.Common.{◌≡◌, ℕ, ◌+◌, length}
use Rattle.diagram_store.specs.Nodes.{HasVariablesBelow}
use Rattle.diagram_ops.specs.private.Images.{IsImage, IsValue}
use Rattle.diagram_ops.specs.NodeTables.{Keeps}
use Rattle.diagram_ops.proofs.table_loading.load.Given as goal

abbrev pub invariant-loop-k : goal.invariant-loop-k
invariant-loop-k l = record { count : length l.places.items ≡ l.k + 2; image : IsImage l.nodes (IsValue l.nodes) l.table l.places.items; keeps : Keeps l.initial.table l.table; limits : (limit : ℕ) → HasVariablesBelow limit l.initial.table → HasVariablesBelow limit l.nodes → HasVariablesBelow limit l.table }
