-- How the states of a program are written.
use Rattle.std.specs.Prelude.{ℕ, Bool, true, false, List, [], ◌∷◌, ◌++◌, Option, None, Some, slice_get, codes, decimal, if◌then◌else◌}
use Rattle.std.specs.List.{flat_map}
use Rattle.boolean_programs.specs.declared.point.Point.{Point}
use Rattle.boolean_programs.specs.declared.program.Proc.{Proc}
use Rattle.boolean_programs.specs.declared.program.Program.{Program}
use Rattle.boolean_programs.specs.Programs.{program_of}
use Rattle.boolean_programs.specs.Lines.{instruction_at}
use Rattle.boolean_machine.specs.Machine.{Frame, State}

-- ` NAME=0` or ` NAME=1`
abbrev pub bit_text : List ℕ → Bool → List ℕ
bit_text name b = codes " " ++ name ++ (if b then codes "=1" else codes "=0")

-- one for each name with its bit, in order
abbrev pub bits_text : List (List ℕ) → List Bool → List ℕ
bits_text [] bits = []
bits_text (x ∷ xs) [] = []
bits_text (x ∷ xs) (b ∷ bs) = bit_text x b ++ bits_text xs bs

-- the procedure of a body line
abbrev pub proc_at : Program → ℕ → Option Proc
proc_at p n = elim (instruction_at (program_of p) n) [ None ↦ None | Some i ↦ slice_get p.procs i.procedure ]

-- the names of a procedure: its parameters, and then its other locals
abbrev pub names_of : Option Proc → List (List ℕ)
names_of None = []
names_of (Some q) = q.params ++ q.locals

-- `    line L:`, or `    fail L:` where the assert on that line has failed
abbrev pub place_text : Point → List ℕ
place_text point = (if point.failed then codes "    fail " else codes "    line ") ++ decimal point.line ++ codes ":"

-- where the top frame stands, and the bits of the globals and of the names of its procedure
abbrev pub frame_line : Program → List Bool → Frame → List ℕ
frame_line p globals f =
    place_text f.point ++ bits_text p.globals globals ++ bits_text (names_of (proc_at p f.point.line)) f.locals ++ 10 ∷ []

-- of a state without frames the globals alone
abbrev pub ended_line : Program → List Bool → List ℕ
ended_line p globals = codes "    ended:" ++ bits_text p.globals globals ++ 10 ∷ []

abbrev pub state_line : Program → State → List ℕ
state_line p s = elim s.frames [ [] ↦ ended_line p s.globals | f ∷ fs ↦ frame_line p s.globals f ]

-- a line for each state, in order
abbrev pub trace_text : Program → List State → List ℕ
trace_text p states = codes "  trace:\n" ++ flat_map (state_line p) states
