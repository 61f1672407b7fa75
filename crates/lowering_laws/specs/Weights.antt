-- Diagrams as the weights of the lowering.
use Rattle.std.specs.Prelude.{◌≡◌, ℕ, List, map, Option, None, Some, slice_index_or}
use Rattle.truth_tables.specs.Formulas.{Formula}
use Rattle.pushdown_rules.specs.Pushdown.{Pushdown}
use Rattle.relation_laws.specs.Building.{Parts}
use Rattle.relation_laws.specs.Relations.{leads}
use Rattle.relation_weights.specs.declared.rel_map.Slot.{Slot}
use Rattle.relation_weights.specs.declared.rel_map.Slot.TheVariants.{Caller, Callee}
use Rattle.relation_weights.specs.declared.rel_map.RelMap.{RelMap}
use Rattle.relation_weights.specs.declared.rel_map.RelMap.TheVariants.{Plain, Slots}
use Rattle.boolean_programs.specs.declared.statement.Choice.{Choice}
use Rattle.boolean_programs.specs.declared.statement.Choice.TheVariants.{Star, Is}
use Rattle.boolean_programs.specs.Programs.{Program}
use Rattle.lowering_laws.specs.Lowering.{variables, IsLowering}

-- the slots of a map
abbrev pub slots_of : RelMap → ℕ → Slot
slots_of Plain v = Callee v
slots_of (Slots slots) v = slice_index_or slots v Caller

-- what a target of an assignment becomes, as a value of a program
abbrev pub choice_of : Option (Formula ℕ) → Choice
choice_of None = Star
choice_of (Some e) = Is e

-- the targets and the values of an assignment
abbrev pub targets_of : List (ℕ × Option (Formula ℕ)) → List ℕ
targets_of ts = map (λ (t : ℕ × Option (Formula ℕ)). t.0) ts

abbrev pub values_of : List (ℕ × Option (Formula ℕ)) → List Choice
values_of ts = map (λ (t : ℕ × Option (Formula ℕ)). choice_of t.1) ts

-- The system is the lowering of the program, with relations as diagrams over the program's variables.
pub record IsDiagramLowering (p : Program) (system : Pushdown ℕ Parts RelMap) : Type 0 where
  pub semiring : system.semiring ≡ variables p
  pub lowering : IsLowering leads slots_of p system
