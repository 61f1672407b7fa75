-- Relations as references into one table of nodes.
use Rattle.std.specs.Prelude.{◌≡◌, ℕ, ◌+◌, ◌*◌, ◌<◌, ◌≤◌, Bool, IsTrue, List, length}
use Rattle.wpds_base.specs.Limits.{most_related}
use Rattle.diagram_store.specs.declared.branch.Branch.{Branch}
use Rattle.diagram_store.specs.Nodes.{HasVariablesBelow, IsReduced}
use Rattle.diagram_ops.specs.NodeTables.{leads_at}
use Rattle.relation_laws.specs.Building.{Parts}
use Rattle.relation_laws.specs.Relations.{relation_of}
use Rattle.relation_weights.specs.declared.nodes.ReturnNodes.{ReturnNodes}
use Rattle.relation_weights.specs.declared.nodes.ReturnNodes.TheVariants.{Same, Both}
use Rattle.relation_weights.specs.declared.rel_map.Slot.{Slot}
use Rattle.relation_weights.specs.declared.rel_map.RelMap.{RelMap}
use Rattle.relation_weights.specs.declared.rel_map.RelMap.TheVariants.{Slots}
use Rattle.relation_weights.specs.Moves.{moved, kept}
use Rattle.relation_weights.specs.Relations.{after_of, map_fits, relation_fits}

-- how many bits a state has, and the nodes
pub record NodesOf : Type 0 where
  pub bits : ℕ
  pub nodes : List Branch

abbrev pub IsReference : NodesOf → ℕ → Type 0
IsReference v r = r < length v.nodes + 2

-- the relation of a reference
abbrev pub relation_at : NodesOf → ℕ → Parts
relation_at v r = relation_of v.bits (leads_at v.nodes r)

-- Nodes are added: each reference is one still, and leads from and to the same states.
pub record HasMore (old new : NodesOf) : Type 0 where
  pub bits : new.bits ≡ old.bits
  pub within : (r : ℕ) → IsReference old r → IsReference new r
  pub stays : (r : ℕ) → IsReference old r → (x y : ℕ → Bool) → leads_at new.nodes r x y ≡ leads_at old.nodes r x y

-- Reduced nodes of diagrams over the old and the new values of the bits.
pub record AreRelations (v : NodesOf) : Type 0 where
  pub few : v.bits ≤ most_related
  pub reduced : IsReduced v.nodes
  pub below : HasVariablesBelow (2 * v.bits) v.nodes

-- The moves of the callee's bits, and what keeps the caller's.
pub record HasReturnParts (v : NodesOf) (slots : List Slot) (moves stays : ℕ) : Type 0 where
  pub moves_within : IsReference v moves
  pub stays_within : IsReference v stays
  pub moves_lead : (x y : ℕ → Bool) → leads_at v.nodes moves x y ≡ moved v.bits slots x y
  pub stays_lead : (x y : ℕ → Bool) → leads_at v.nodes stays x y ≡ kept v.bits slots x y

-- By these references a return map is applied: it changes no relation, or moves and keeps bits.
abbrev pub IsReturnBy : NodesOf → RelMap → ReturnNodes → Type 0
IsReturnBy v map Same = (w : Parts) → IsTrue (relation_fits v.bits w) → after_of v.bits map w ≡ w
IsReturnBy v map (Both moves stays) = (slots : List Slot) × (map ≡ Slots slots) × IsTrue (map_fits v.bits (Slots slots)) × HasReturnParts v slots moves stays
