-- The variables of a lowered program, as the code keeps them.
use Rattle.std.specs.Prelude.{◌≡◌, ℕ, ◌+◌, nat_lt, if◌then◌else◌}
use Rattle.boolean_programs.specs.Programs.{Program}
use Rattle.boolean_programs.specs.Structure.{return_slots}
use Rattle.lowering_laws.specs.Lowering.{local_slots}
use Rattle.boolean_lowering.specs.declared.layout.Layout.{Layout}

-- how many variables there are
abbrev pub variables_in : Layout → ℕ
variables_in l = l.globals + l.returns + l.locals

-- the variable of a name
abbrev pub slot_in : Layout → ℕ → ℕ
slot_in l k = if nat_lt k l.globals then k else k + l.returns

-- the variables are those of the program
pub record IsLayout (p : Program) (l : Layout) : Type 0 where
  pub globals : l.globals ≡ p.globals
  pub returns : l.returns ≡ return_slots p
  pub locals : l.locals ≡ local_slots p
