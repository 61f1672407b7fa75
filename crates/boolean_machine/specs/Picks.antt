-- Moves by picks: a target where several points can be gone to, and a bit for each free value.
use Rattle.std.specs.Prelude.{ℕ, zero, suc, ◌+◌, Bool, true, false, List, [], ◌∷◌, ◌++◌, length, Option, None, Some, option_map, slice_get, slice_index_or, if◌then◌else◌}
use Rattle.truth_tables.specs.Formulas.{Formula}
use Rattle.boolean_programs.specs.declared.statement.Choice.{Choice}
use Rattle.boolean_programs.specs.declared.statement.Choice.TheVariants.{Star, Is}
use Rattle.boolean_programs.specs.declared.statement.Statement.{Statement}
use Rattle.boolean_programs.specs.Programs.{Procedure, Program}
use Rattle.boolean_programs.specs.declared.statement.Statement.TheVariants.{Goto, Call, If, While}
use Rattle.boolean_programs.specs.declared.point.Point.{Point}
use Rattle.boolean_programs.specs.Lines.{Instruction, instruction_at, first_line}
use Rattle.boolean_programs.specs.Lists.{place_in}
use Rattle.boolean_machine.specs.Machine.{at_line, Frame, State, bits, value_at, Action, Jumps, Sets, Calls, Returns, action, on_top}

-- the first n values
abbrev pub listed : ℕ → (ℕ → Bool) → List Bool
listed zero f = []
listed (suc n) f = f 0 ∷ listed n (λ k. f (suc k))

-- how many values are free
abbrev pub stars : List Choice → ℕ
stars [] = 0
stars (Star ∷ vs) = suc (stars vs)
stars (Is e ∷ vs) = stars vs

-- the bits of values, where the free ones take the picked bits from number k on
abbrev pub picked : (old free : ℕ → Bool) → ℕ → List Choice → List Bool
picked old free k [] = []
picked old free k (Star ∷ vs) = free k ∷ picked old free (suc k) vs
picked old free k (Is e ∷ vs) = value_at old e ∷ picked old free k vs

-- the bit of a name behind targets that got new bits
abbrev pub written : List ℕ → List Bool → (ℕ → Bool) → ℕ → Bool
written targets new kept k = elim (place_in targets k) [ None ↦ kept k | Some j ↦ slice_index_or new j false ]

-- the state at a point whose top frame has these globals and locals, and targets with new bits
abbrev pub on_written : List ℕ → List Bool → List Bool → Point → List Bool → List Frame → State
on_written targets new globals point locals below =
    on_top (listed (length globals) (written targets new (bits globals locals))) point (listed (length locals) (λ j. written targets new (bits globals locals) (length globals + j))) below

-- the target is looked at
abbrev pub is_free : Choice → Bool
is_free Star = true
is_free (Is e) = false

abbrev pub is_picked : Statement → Bool
is_picked (Goto lines) = true
is_picked (If c) = is_free c
is_picked (While c) = is_free c
is_picked s = false

-- the first way whose condition is true
abbrev pub first_true : (ℕ → Bool) → List (Formula ℕ × Point) → Option (Formula ℕ × Point)
first_true old [] = None
first_true old (w ∷ ws) = if value_at old w.0 then Some w else first_true old ws

abbrev pub way_taken : Statement → ℕ → (ℕ → Bool) → List (Formula ℕ × Point) → Option (Formula ℕ × Point)
way_taken s target old ways = if is_picked s then slice_get ways target else first_true old ways

-- a frame that waits goes on with the values of a return
abbrev pub resumed : List Bool → List Bool → Frame → List Frame → Option Instruction → Option State
resumed new globals c below None = None
resumed new globals c below (Some call) = elim call.statement [
  | Call targets callee arguments ↦ Some (on_written targets new globals (at_line call.next) c.locals below)
  | _ ↦ None
]

abbrev pub ended : Program → List Bool → List Bool → List Frame → Option State
ended p new globals [] = Some (record { globals = globals; frames = [] })
ended p new globals (c ∷ fs) = resumed new globals c fs (instruction_at p c.point.line)

abbrev pub acted : Program → Instruction → List Bool → Frame → List Frame → ℕ → (ℕ → Bool) → Action → Option State
acted p i globals f below target free (Jumps ways) =
    option_map (λ (w : Formula ℕ × Point). on_top globals w.1 f.locals below) (way_taken i.statement target (bits globals f.locals) ways)
acted p i globals f below target free (Sets targets values) =
    Some (on_written targets (picked (bits globals f.locals) free 0 values) globals (at_line i.next) f.locals below)
acted p i globals f below target free (Calls targets callee arguments) =
    option_map (λ (q : Procedure). on_top globals (at_line (first_line q.body)) (picked (bits globals f.locals) free 0 arguments ++ listed q.locals (λ j. free (stars arguments + j))) (f ∷ below)) (slice_get p.procs callee)
acted p i globals f below target free (Returns values) = ended p (picked (bits globals f.locals) free 0 values) globals below

abbrev pub top_acted : Program → List Bool → Frame → List Frame → ℕ → (ℕ → Bool) → Option Instruction → Option State
top_acted p globals f below target free None = None
top_acted p globals f below target free (Some i) = acted p i globals f below target free (action p i)

-- the move with a pick, if there is one
abbrev pub step_of : Program → State → ℕ → (ℕ → Bool) → Option State
step_of p s target free = elim s.frames [
  | [] ↦ None
  | f ∷ fs ↦ if f.point.failed then None else top_acted p s.globals f fs target free (instruction_at p f.point.line)
]
