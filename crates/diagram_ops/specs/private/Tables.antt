-- A table of nodes that stays, with results of operations on them.
use Rattle.std.specs.Prelude.{ℕ, ◌≤◌, List, length}
use Rattle.diagram_store.specs.declared.branch.Branch.{Branch}
use Rattle.diagram_store.specs.Nodes.{IsReduced}
use Rattle.diagram_ops.specs.NodeTables.{Keeps, KeepsLimits}
use Rattle.diagram_ops.specs.declared.kept_results.Slot.{Slot}
use Rattle.diagram_ops.specs.declared.node.Node.{Node}
use Rattle.diagram_ops.specs.private.KeptResults.{AreRight}
use Rattle.diagram_ops.specs.private.TableNodes.{branches_of, most_nodes}

pub record IsTable (nodes : List Node) (slots : List Slot) : Type 0 where
  pub reduced : IsReduced (branches_of nodes)
  pub right : AreRight (branches_of nodes) slots
  pub few : length nodes ≤ most_nodes

-- what each operation leaves, also where it is refused
pub record Grows (old new : List Branch) : Type 0 where
  pub reduced : IsReduced new
  pub keeps : Keeps old new
  pub limits : KeepsLimits old new
