-- Steps on states as they are held.
use Rattle.std.specs.Prelude.{◌≡◌, ℕ, zero, suc, ◌+◌, ◌/◌, ◌≤◌, Bool, true, false, IsTrue, List, ◌∷◌, ◌++◌, take, drop, replicate, length, Option, None, Some, slice_get, slice_index_or, option_map, MatchOption, if◌then◌else◌}
use Rattle.wpds_base.specs.Limits.{most_related}
use Rattle.truth_tables.specs.Formulas.{is_over}
use Rattle.boolean_programs.specs.declared.point.Point.{Point}
use Rattle.boolean_programs.specs.declared.statement.Choice.{Choice}
use Rattle.boolean_programs.specs.declared.statement.Choice.TheVariants.{Star, Is}
use Rattle.boolean_programs.specs.declared.statement.Statement.{Statement}
use Rattle.boolean_programs.specs.declared.statement.Statement.TheVariants.{Skip, Assign, Goto, Assume, Assert, Call, Return, If, Else, While, EndIf, EndWhile, EndProc}
use Rattle.boolean_programs.specs.Programs.{Procedure, Program, width, procedure_of}
use Rattle.boolean_programs.specs.Lines.{Instruction, instruction_at, first_line}
use Rattle.boolean_programs.specs.Structure.{FitsLine, IsValueOver}
use Rattle.boolean_machine.specs.Machine.{at_line, value_at, returns_of}
use Rattle.boolean_machine.specs.Picks.{listed, stars, picked, written}
use Rattle.boolean_meaning.specs.declared.state.Frame.{Frame as HeldFrame}
use Rattle.boolean_meaning.specs.declared.state.State.{State as HeldState}
use Rattle.boolean_meaning.specs.declared.lines.Spot.{Spot}
use Rattle.boolean_meaning.specs.Bits.{is_odd, bit_of, number_of}
use Rattle.boolean_meaning.specs.HeldStates.{width_of}
use Rattle.boolean_meaning.specs.private.Spots.{instruction_of}

-- there is this new state, or none and the old one stays
abbrev pub IsOutcome : Option HeldState → HeldState → Bool → HeldState → Type 0
IsOutcome there old moved new = MatchOption there ((moved ≡ false) × (new ≡ old)) (λ t. (moved ≡ true) × (new ≡ t))

-- the bits of names, by their list
abbrev pub bit_in : List Bool → ℕ → Bool
bit_in bits k = slice_index_or bits k false

-- the bits of the globals, and of the names of the procedure at a place
abbrev pub names_in : Program → ℕ → (globals locals : ℕ) → List Bool
names_in p k globals locals = listed p.globals (bit_of globals) ++ listed (width_of p k) (bit_of locals)

-- the expressions of a line that only jumps are over n names
abbrev pub IsJumpOver : ℕ → Statement → Type 0
IsJumpOver n (Assume e) = IsTrue (is_over n e)
IsJumpOver n (Assert e) = IsTrue (is_over n e)
IsJumpOver n (If c) = IsValueOver n c
IsJumpOver n (While c) = IsValueOver n c
IsJumpOver n s = Unit {0}

-- ---- where a line leads that only jumps

abbrev pub star_point : Instruction → ℕ → Option Point
star_point i zero = Some (at_line i.next)
star_point i (suc zero) = Some (at_line i.other)
star_point i (suc (suc n)) = None

abbrev pub chosen_point : Instruction → ℕ → (ℕ → Bool) → Choice → Option Point
chosen_point i target old (Is e) = Some (if value_at old e then at_line i.next else at_line i.other)
chosen_point i target old Star = star_point i target

abbrev pub target_point : Instruction → ℕ → (ℕ → Bool) → Statement → Option Point
target_point i target old Skip = Some (at_line i.next)
target_point i target old EndIf = Some (at_line i.next)
target_point i target old (Goto lines) = option_map at_line (slice_get lines target)
target_point i target old (Assume e) = if value_at old e then Some (at_line i.next) else None
target_point i target old (Assert e) = Some (if value_at old e then at_line i.next else record { line = i.line; failed = true })
target_point i target old (If c) = chosen_point i target old c
target_point i target old (While c) = chosen_point i target old c
target_point i target old Else = Some (at_line i.other)
target_point i target old EndWhile = Some (at_line i.other)
target_point i target old s = None

-- ---- values

-- the bit that a value gets, where a free one takes the lowest of some bits
abbrev pub IsPicked : (ℕ → Bool) → Option Choice → (before after : ℕ) → Bool → Type 0
IsPicked old None before after b = after ≡ before
IsPicked old (Some Star) before after b = (b ≡ is_odd before) × (after ≡ before / 2)
IsPicked old (Some (Is e)) before after b = (b ≡ value_at old e) × (after ≡ before)

-- ---- steps

-- the top frame at a point, where the bits are those of the globals and behind them of its names
abbrev pub held_at : ℕ → List Bool → Point → List HeldFrame → HeldState
held_at g bits point below = record {
  globals = number_of (take g bits);
  frames = record { point = point; locals = number_of (drop g bits) } ∷ below;
}

-- names with these bits, and targets that got new ones
abbrev pub names_written : List ℕ → (new old : List Bool) → List Bool
names_written targets new old = listed (length old) (written targets new (bit_in old))

-- the locals of a call
abbrev pub entry_bits : Procedure → List Choice → (old free : ℕ → Bool) → List Bool
entry_bits q arguments old free = picked old free 0 arguments ++ listed q.locals (λ j. free (stars arguments + j))

abbrev pub held_call : Program → ℕ → List Choice → (old free : ℕ → Bool) → HeldState → Option HeldState
held_call p callee arguments old free s =
    option_map (λ (q : Procedure). record { globals = s.globals; frames = record { point = at_line (first_line q.body); locals = number_of (entry_bits q arguments old free) } ∷ s.frames })
    (slice_get p.procs callee)

abbrev pub held_resumed : Program → List Bool → HeldState → HeldFrame → Option Instruction → Option HeldState
held_resumed p new s c None = None
held_resumed p new s c (Some call) = elim call.statement [
  | Call targets callee arguments ↦ Some (held_at p.globals (names_written targets new (names_in p call.procedure s.globals c.locals)) (at_line call.next) (drop 1 (drop 1 s.frames)))
  | _ ↦ None
]

abbrev pub held_ended : Program → List Bool → HeldState → Option HeldFrame → Option HeldState
held_ended p new s None = Some (record { globals = s.globals; frames = drop 1 s.frames })
held_ended p new s (Some c) = held_resumed p new s c (instruction_at p c.point.line)

abbrev pub held_jump : HeldState → ℕ → Option Point → Option HeldState
held_jump s locals o = option_map (λ (point : Point). record { globals = s.globals; frames = record { point = point; locals = locals } ∷ drop 1 s.frames }) o

abbrev pub held_acted : Program → Instruction → Statement → HeldState → ℕ → List Bool → ℕ → (ℕ → Bool) → Option HeldState
held_acted p i (Assign targets values) s locals old target free =
    Some (held_at p.globals (names_written targets (picked (bit_in old) free 0 values) old) (at_line i.next) (drop 1 s.frames))
held_acted p i (Call targets callee arguments) s locals old target free = held_call p callee arguments (bit_in old) free s
held_acted p i (Return values) s locals old target free = held_ended p (picked (bit_in old) free 0 values) s (slice_get s.frames 1)
held_acted p i EndProc s locals old target free =
    held_ended p (picked (bit_in old) free 0 (replicate (returns_of p i.procedure) Star)) s (slice_get s.frames 1)
held_acted p i t s locals old target free = held_jump s locals (target_point i target (bit_in old) t)

abbrev pub held_top_acted : Program → HeldState → ℕ → ℕ → (ℕ → Bool) → Option Instruction → Option HeldState
held_top_acted p s locals target free None = None
held_top_acted p s locals target free (Some i) = held_acted p i i.statement s locals (names_in p i.procedure s.globals locals) target free

abbrev pub held_step : Program → HeldState → ℕ → (ℕ → Bool) → Option HeldState
held_step p s target free = elim (slice_get s.frames 0) [
  | None ↦ None
  | Some f ↦ if f.point.failed then None else held_top_acted p s f.locals target free (instruction_at p f.point.line)
]

-- ---- spots

-- a spot is that of the line of a number
pub record IsSpotOf (p : Program) (line : ℕ) (spot : Spot) : Type 0 where
  pub there : instruction_at p line ≡ Some (instruction_of spot)
  pub owner : slice_get p.procs spot.procedure ≡ Some (procedure_of spot.owner.now)
  pub fits : FitsLine p (instruction_of spot)
  pub small : p.globals + width (procedure_of spot.owner.now) ≤ most_related

-- it is that of the line of some number
abbrev pub IsSpot : Program → Spot → Type 0
IsSpot p spot = (line : ℕ) × IsSpotOf p line spot
