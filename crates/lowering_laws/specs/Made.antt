-- The lowering over diagrams, made at once.
use Rattle.std.specs.Prelude.{ℕ, zero, suc, Bool, true, ◌&&◌, List, [], ◌∷◌, map, Option, None, Some, option_map}
use Rattle.pushdown_rules.specs.declared.rule.Rule.{Rule}
use Rattle.pushdown_rules.specs.Pushdown.{Pushdown}
use Rattle.relation_laws.specs.Building.{Parts}
use Rattle.relation_laws.specs.States.{same_bit, each_below}
use Rattle.relation_laws.specs.Relations.{Pairs, relation_of, identity}
use Rattle.relation_weights.specs.declared.rel_map.Slot.{Slot}
use Rattle.relation_weights.specs.declared.rel_map.RelMap.{RelMap}
use Rattle.relation_weights.specs.declared.rel_map.RelMap.TheVariants.{Slots}
use Rattle.boolean_programs.specs.declared.statement.Choice.{Choice}
use Rattle.boolean_programs.specs.declared.statement.Choice.TheVariants.{Star, Is}
use Rattle.boolean_programs.specs.Programs.{Program}
use Rattle.boolean_machine.specs.Machine.{value_at, value_for}
use Rattle.lowering_laws.specs.Lowering.{Effect, Assumes, Assigns, Planned, plan, variables, symbols}

-- whether a variable may become a bit, by its value
abbrev pub may_be : Option Choice → (ℕ → Bool) → ℕ → Bool → Bool
may_be None x v b = same_bit (x v) b
may_be (Some Star) x v b = true
may_be (Some (Is e)) x v b = same_bit b (value_at x e)

-- the pairs of an effect on n variables
abbrev pub effect_pairs : ℕ → Effect → Pairs
effect_pairs n (Assumes e) x y = value_at x e && identity n x y
effect_pairs n (Assigns targets values) x y = each_below n (λ v. may_be (value_for targets values v) x v (y v))

-- the slots of the first n variables
abbrev pub listed_slots : ℕ → (ℕ → Slot) → List Slot
listed_slots zero h = []
listed_slots (suc n) h = h 0 ∷ listed_slots n (λ v. h (suc v))

-- a planned rule with its weight
abbrev pub made : ℕ → Planned → Rule ℕ Parts RelMap
made n t = record {
  control = 0;
  symbol = t.head;
  to = 0;
  right = t.right;
  weight = relation_of n (effect_pairs n t.effect);
  map = option_map (λ h. Slots (listed_slots n h)) t.map;
}

abbrev pub lowering_of : Program → Pushdown ℕ Parts RelMap
lowering_of p = record { semiring = variables p; controls = 1; symbols = symbols p; rules = map (made (variables p)) (plan p) }
