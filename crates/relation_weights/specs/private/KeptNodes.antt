-- The nodes of relations, as they are kept.
use Rattle.std.specs.Prelude.{◌≡◌, ℕ, ◌*◌, ◌≤◌, Bool}
use Rattle.wpds_base.specs.Limits.{most_related}
use Rattle.diagram_store.specs.Nodes.{HasVariablesBelow}
use Rattle.diagram_ops.specs.NodeTables.{leads_at}
use Rattle.relation_laws.specs.Relations.{identity}
use Rattle.relation_weights.specs.RelationNodes.{NodesOf, IsReference}

-- Nodes over the old and the new values of the bits, and among them the identity.
pub record AreKept (v : NodesOf) (stay : ℕ) : Type 0 where
  pub few : v.bits ≤ most_related
  pub below : HasVariablesBelow (2 * v.bits) v.nodes
  pub within : IsReference v stay
  pub stays : (x y : ℕ → Bool) → leads_at v.nodes stay x y ≡ identity v.bits x y
