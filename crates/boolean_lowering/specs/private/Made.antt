-- What the making of rules stands on, and what it adds.
use Rattle.std.specs.Prelude.{◌≡◌, ℕ, true, List, ◌++◌}
use Rattle.truth_tables.specs.Formulas.{Constant}
use Rattle.pushdown_rules.specs.declared.rule.Rule.{Rule}
use Rattle.pushdown_rules.specs.Pushdown.{Pushdown}
use Rattle.relation_laws.specs.Building.{Parts}
use Rattle.relation_laws.specs.Relations.{leads}
use Rattle.relation_weights.specs.declared.rel_map.RelMap.{RelMap}
use Rattle.boolean_programs.specs.Programs.{Program, program_of}
use Rattle.boolean_programs.specs.Structure.{IsRead}
use Rattle.lowering_laws.specs.Lowering.{Assumes, Planned, variables, symbols, symbol_points}
use Rattle.lowering_laws.specs.Plans.{AreLowered}
use Rattle.lowering_laws.specs.Weights.{slots_of}
use Rattle.boolean_lowering.specs.declared.making.Making.{Making}
use Rattle.boolean_lowering.specs.private.Layouts.{IsLayout}
use Rattle.boolean_lowering.specs.private.Effects.{HasEffect}

abbrev pub program_in : Making → Program
program_in m = program_of m.program.now

-- a program as it is read, with its own points and variables
pub record IsMaking (m : Making) : Type 0 where
  pub read : IsRead (program_in m)
  pub points : m.points.now ≡ symbol_points (program_in m)
  pub layout : IsLayout (program_in m) m.layout
  pub relations : m.relations ≡ variables (program_in m)
  pub stay : HasEffect (variables (program_in m)) m.stay (Assumes (Constant true))

-- a system over the program's symbols and variables
pub record IsFor (p : Program) (system : Pushdown ℕ Parts RelMap) : Type 0 where
  pub semiring : system.semiring ≡ variables p
  pub controls : system.controls ≡ 1
  pub symbols_are : system.symbols ≡ symbols p

-- the new system has rules more than the old one, which are as planned
pub record AreAdded (p : Program) (old new : Pushdown ℕ Parts RelMap) (planned : List Planned) : Type 0 where
  pub rules : List (Rule ℕ Parts RelMap)
  pub added : new ≡ record old { rules = old.rules ++ rules }
  pub lowered : AreLowered (variables p) leads slots_of rules planned
