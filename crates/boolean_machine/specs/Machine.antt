-- The machine of a Boolean program: its states, its moves and its runs.
use Rattle.std.specs.Prelude.{◌≡◌, ℕ, ◌+◌, ◌<◌, Bool, true, false, not, IsTrue, List, [], ◌∷◌, ◌++◌, length, replicate, Option, None, Some, slice_get, slice_index_or, unwrap_or, option_map, map}
use Rattle.truth_tables.specs.Formulas.{Formula, Constant, Variable, Opposite, Binary, Ternary}
use Rattle.truth_tables.specs.Tables.{value2_of, value3_of}
use Rattle.boolean_programs.specs.declared.statement.Choice.{Choice}
use Rattle.boolean_programs.specs.declared.statement.Choice.TheVariants.{Star, Is}
use Rattle.boolean_programs.specs.declared.statement.Statement.{Statement}
use Rattle.boolean_programs.specs.Programs.{Procedure, Program, width}
use Rattle.boolean_programs.specs.declared.statement.Statement.TheVariants.{Skip, Assign, Goto, Assume, Assert, Call, Return, If, Else, While, EndIf, EndWhile, EndProc}
use Rattle.boolean_programs.specs.declared.point.Point.{Point}
use Rattle.boolean_programs.specs.Lines.{Instruction, instruction_at, first_line}
use Rattle.boolean_programs.specs.Lists.{place_in}

abbrev pub at_line : ℕ → Point
at_line n = record { line = n; failed = false }

-- the bits of a procedure's names, parameters first
pub record Frame : Type 0 where
  pub point : Point
  pub locals : List Bool

pub record State : Type 0 where
  pub globals : List Bool
  -- the top first
  pub frames : List Frame

-- ---- values

-- the bit of each name: the globals, then the locals of a frame
abbrev pub bits : List Bool → List Bool → ℕ → Bool
bits globals locals k = slice_index_or (globals ++ locals) k false

abbrev pub value_at : (ℕ → Bool) → Formula ℕ → Bool
value_at old (Constant b) = b
value_at old (Variable k) = old k
value_at old (Opposite f) = not (value_at old f)
value_at old (Binary t f g) = value2_of t (value_at old f) (value_at old g)
value_at old (Ternary t f g h) = value3_of t (value_at old f) (value_at old g) (value_at old h)

-- a value may be this bit
abbrev pub MayBe : (ℕ → Bool) → Choice → Bool → Type 0
MayBe old Star b = Unit {0}
MayBe old (Is e) b = b ≡ value_at old e

-- the value that a name gets, if it is a target
abbrev pub value_for : List ℕ → List Choice → ℕ → Option Choice
value_for targets values k = elim (place_in targets k) [ None ↦ None | Some j ↦ slice_get values j ]

-- What a name may become: a target one of its value's bits, taken in `old`; another keeps the bit that it has.
abbrev pub MayBecome : List ℕ → List Choice → (old kept : ℕ → Bool) → ℕ → Bool → Type 0
MayBecome targets values old kept k b = elim (value_for targets values k) [ None ↦ b ≡ kept k | Some v ↦ MayBe old v b ]

-- Targets get values: globals and locals before and after.
pub record Gets (targets : List ℕ) (values : List Choice) (old : ℕ → Bool) (globals locals globals' locals' : List Bool) : Type 0 where
  pub globals_stay : length globals' ≡ length globals
  pub locals_stay : length locals' ≡ length locals
  pub each : (k : ℕ) → k < length globals + length locals → MayBecome targets values old (bits globals locals) k (bits globals' locals' k)

-- The locals of a call: the parameters are the arguments, the others free.
pub record IsEntered (q : Procedure) (arguments : List Choice) (old : ℕ → Bool) (locals : List Bool) : Type 0 where
  pub wide : length locals ≡ width q
  pub each : (j : ℕ) (v : Choice) → slice_get arguments j ≡ Some v → MayBe old v (slice_index_or locals j false)

-- ---- the table of moves

-- What a line does: it goes to one of some points whose condition is true; or it sets targets to values and goes to the
-- line below; or it calls; or it returns these values.
pub data Action : Type 0 where
  Jumps : (ways : List (Formula ℕ × Point)) → Action
  Sets : (targets : List ℕ) → (values : List Choice) → Action
  Calls : (targets : List ℕ) → (callee : ℕ) → (arguments : List Choice) → Action
  Returns : (values : List Choice) → Action

abbrev pub always : ℕ → Formula ℕ × Point
always n = (Constant true, at_line n)

-- to one point where a condition is true, to another where it is false, to both at `*`
abbrev pub on_choice : Choice → Point → Point → Action
on_choice (Is e) there elsewhere = Jumps ((e, there) ∷ (Opposite e, elsewhere) ∷ [])
on_choice Star there elsewhere = Jumps ((Constant true, there) ∷ (Constant true, elsewhere) ∷ [])

-- the action of a line whose procedure returns so many values
abbrev pub action_of : ℕ → Instruction → Statement → Action
action_of returns i Skip = Jumps (always i.next ∷ [])
action_of returns i EndIf = Jumps (always i.next ∷ [])
action_of returns i (Assign targets values) = Sets targets values
action_of returns i (Goto lines) = Jumps (map always lines)
action_of returns i (Assume e) = Jumps ((e, at_line i.next) ∷ [])
action_of returns i (Assert e) = on_choice (Is e) (at_line i.next) (record { line = i.line; failed = true })
action_of returns i (If c) = on_choice c (at_line i.next) (at_line i.other)
action_of returns i (While c) = on_choice c (at_line i.next) (at_line i.other)
action_of returns i Else = Jumps (always i.other ∷ [])
action_of returns i EndWhile = Jumps (always i.other ∷ [])
action_of returns i (Call targets callee arguments) = Calls targets callee arguments
action_of returns i (Return values) = Returns values
action_of returns i EndProc = Returns (replicate returns Star)

abbrev pub returns_of : Program → ℕ → ℕ
returns_of p k = unwrap_or (option_map (λ (q : Procedure). q.returns) (slice_get p.procs k)) 0

abbrev pub action : Program → Instruction → Action
action p i = action_of (returns_of p i.procedure) i i.statement

-- ---- moves

abbrev pub on_top : List Bool → Point → List Bool → List Frame → State
on_top globals point locals below = record { globals = globals; frames = record { point = point; locals = locals } ∷ below }

-- A return of values that are taken in `old`: the frame goes; where a frame is below, the targets of its call get the
-- values, and it goes on to the line below the call.
abbrev pub Ends : Program → List Choice → (ℕ → Bool) → List Bool → List Frame → State → Type 0
Ends p values old globals [] to = to ≡ record { globals = globals; frames = [] }
Ends p values old globals (f ∷ fs) to =
    (call : Instruction) × (targets : List ℕ) × (callee : ℕ) × (arguments : List Choice) × (instruction_at p f.point.line ≡ Some call) × (call.statement ≡ Call targets callee arguments)
    × (globals' : List Bool) × (locals' : List Bool) × Gets targets values old globals f.locals globals' locals' × (to ≡ on_top globals' (at_line call.next) locals' fs)

abbrev pub Acts : Program → Instruction → List Bool → Frame → List Frame → State → Action → Type 0
Acts p i globals f below to (Jumps ways) =
    (k : ℕ) × (way : Formula ℕ × Point) × (slice_get ways k ≡ Some way) × IsTrue (value_at (bits globals f.locals) way.0) × (to ≡ on_top globals way.1 f.locals below)
Acts p i globals f below to (Sets targets values) =
    (globals' : List Bool) × (locals' : List Bool) × Gets targets values (bits globals f.locals) globals f.locals globals' locals' × (to ≡ on_top globals' (at_line i.next) locals' below)
Acts p i globals f below to (Calls targets callee arguments) =
    (q : Procedure) × (slice_get p.procs callee ≡ Some q) × (locals' : List Bool) × IsEntered q arguments (bits globals f.locals) locals'
    × (to ≡ on_top globals (at_line (first_line q.body)) locals' (f ∷ below))
Acts p i globals f below to (Returns values) = Ends p values (bits globals f.locals) globals below to

-- the top frame moves; at the failure of an assert it does not
abbrev pub TopMoves : Program → List Bool → Frame → List Frame → State → Type 0
TopMoves p globals f below to = elim f.point.failed [
  | true ↦ ⊥
  | false ↦ (i : Instruction) × (instruction_at p f.point.line ≡ Some i) × Acts p i globals f below to (action p i)
]

abbrev pub Moves : Program → State → State → Type 0
Moves p from to = elim from.frames [ [] ↦ ⊥ | f ∷ fs ↦ TopMoves p from.globals f fs to ]

-- ---- runs

-- one frame, at main's first body line, all bits free
pub record IsStart (p : Program) (s : State) : Type 0 where
  pub main : Procedure
  pub found : slice_get p.procs p.main ≡ Some main
  pub locals : List Bool
  pub globals_are : length s.globals ≡ p.globals
  pub locals_are : length locals ≡ width main
  pub frames_are : s.frames ≡ record { point = at_line (first_line main.body); locals = locals } ∷ []

-- each state is a move of the one before
abbrev pub Follow : Program → State → List State → Type 0
Follow p s [] = Unit {0}
Follow p s (t ∷ ts) = Moves p s t × Follow p t ts

abbrev pub IsProgramRun : Program → List State → Type 0
IsProgramRun p [] = ⊥
IsProgramRun p (s ∷ ss) = IsStart p s × Follow p s ss

-- the point on top
abbrev pub top_of : State → Option Point
top_of s = elim s.frames [ [] ↦ None | f ∷ fs ↦ Some f.point ]

-- some state of some run has the point on top
abbrev pub IsReached : Program → Point → Type 0
IsReached p point = (run : List State) × IsProgramRun p run × (k : ℕ) × (s : State) × (slice_get run k ≡ Some s) × (top_of s ≡ Some point)
