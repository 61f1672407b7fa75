-- A system of relations, and the nodes among which they have references.
use Rattle.std.specs.Prelude.{ℕ, List}
use Rattle.diagram_store.specs.declared.branch.Branch.{Branch}
use Rattle.pushdown_rules.specs.Pushdown.{Pushdown}
use Rattle.relation_laws.specs.Building.{Parts}
use Rattle.relation_weights.specs.RelationNodes.{NodesOf, IsReference, relation_at}
use Rattle.relation_weights.specs.declared.rel_map.RelMap.{RelMap}

pub record WeigherOf : Type 0 where
  pub system : Pushdown ℕ Parts RelMap
  pub nodes : List Branch

-- the nodes, of relations between states of as many bits as the system's
abbrev pub nodes_of : WeigherOf → NodesOf
nodes_of m = record { bits = m.system.semiring; nodes = m.nodes }

-- a reference among the nodes
abbrev pub Knows : WeigherOf → ℕ → Type 0
Knows m r = IsReference (nodes_of m) r

-- the relation of a reference
abbrev pub worth : WeigherOf → ℕ → Parts
worth m r = relation_at (nodes_of m) r
