-- What the settings of a program's variables are read by.
use Rattle.std.specs.Prelude.{◌≡◌, ℕ, ◌≤◌, List, map, [], ◌∷◌}
use Rattle.wpds_base.specs.Limits.{most_related}
use Rattle.boolean_programs.specs.Lines.{Instruction, code}
use Rattle.boolean_programs.specs.Programs.{Program, program_of}
use Rattle.boolean_programs.specs.Structure.{IsRead}
use Rattle.boolean_meaning.specs.HeldStates.{width_of}
use Rattle.lowering_laws.specs.Lowering.{first_local, symbol_points}
use Rattle.program_traces.specs.declared.reader.Reader.{Reader}

-- how many names the procedure of a body line has
abbrev pub line_width : Program → Instruction → ℕ
line_width p i = width_of p i.procedure

abbrev pub program_in : Reader → Program
program_in r = program_of r.program.now

-- it reads the settings of its program's variables
pub record IsReader (r : Reader) : Type 0 where
  pub read : IsRead (program_in r)
  pub first_local : r.first_local ≡ first_local (program_in r)
  pub small : r.first_local ≤ most_related
  pub points : r.points.now ≡ symbol_points (program_in r)
  pub widths : r.widths.items ≡ map (line_width (program_in r)) (code (program_in r))

-- the settings at open calls behind a rule that leaves this word
abbrev pub saved_after : {X : Type 0} → List ℕ → List X → X → List X
saved_after word saved z = elim word [
  | [] ↦ elim saved [ [] ↦ [] | y ∷ rest ↦ rest ]
  | a ∷ as' ↦ elim as' [ [] ↦ saved | b ∷ bs ↦ z ∷ saved ]
]
