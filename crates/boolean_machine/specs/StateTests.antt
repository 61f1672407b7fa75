-- States of a program as a test that computes.
use Rattle.std.specs.Prelude.{ℕ, Bool, true, false, not, ◌&&◌, nat_eq, List, [], ◌∷◌, length, None, Some, slice_get}
use Rattle.boolean_programs.specs.declared.statement.Statement.{Statement}
use Rattle.boolean_programs.specs.Programs.{Program, width}
use Rattle.boolean_programs.specs.declared.statement.Statement.TheVariants.{Call}
use Rattle.boolean_programs.specs.Lines.{instruction_at}
use Rattle.boolean_machine.specs.Machine.{Frame, State}
use Rattle.boolean_machine.specs.Lawful.{is_point_of}

-- as many locals as the procedure has names
abbrev pub has_width : Program → ℕ → List Bool → Bool
has_width p procedure locals = elim (slice_get p.procs procedure) [ None ↦ false | Some q ↦ nat_eq (length locals) (width q) ]

abbrev pub calls : Statement → ℕ → Bool
calls (Call targets to arguments) callee = nat_eq to callee
calls s callee = false

-- each frame stands at a call of the procedure of the frame above it
abbrev pub are_waiting : Program → ℕ → List Frame → Bool
are_waiting p callee [] = true
are_waiting p callee (f ∷ fs) = elim (instruction_at p f.point.line) [
  | None ↦ false
  | Some i ↦ not f.point.failed && (calls i.statement callee && (has_width p i.procedure f.locals && are_waiting p i.procedure fs))
]

abbrev pub are_frames : Program → List Frame → Bool
are_frames p [] = true
are_frames p (f ∷ fs) = elim (instruction_at p f.point.line) [
  | None ↦ false
  | Some i ↦ is_point_of p i.procedure f.point && (has_width p i.procedure f.locals && are_waiting p i.procedure fs)
]

abbrev pub is_state : Program → State → Bool
is_state p s = nat_eq (length s.globals) p.globals && are_frames p s.frames
