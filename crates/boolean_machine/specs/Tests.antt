-- Moves as a test that computes.
use Rattle.std.specs.Prelude.{ℕ, zero, suc, ◌+◌, Bool, true, false, not, ◌&&◌, nat_eq, List, [], ◌∷◌, length, Option, None, Some, slice_get}
use Rattle.std.specs.List.{list_any}
use Rattle.truth_tables.specs.Formulas.{Formula}
use Rattle.boolean_programs.specs.declared.statement.Choice.{Choice}
use Rattle.boolean_programs.specs.declared.statement.Choice.TheVariants.{Star, Is}
use Rattle.boolean_programs.specs.Programs.{Procedure, Program, width}
use Rattle.boolean_programs.specs.declared.statement.Statement.TheVariants.{Call}
use Rattle.boolean_programs.specs.declared.point.Point.{Point}
use Rattle.boolean_programs.specs.Lines.{Instruction, instruction_at, first_line}
use Rattle.boolean_machine.specs.Machine.{at_line, Frame, State, bits, value_at, value_for, Action, Jumps, Sets, Calls, Returns, action, on_top}

abbrev pub same_flag : Bool → Bool → Bool
same_flag true b = b
same_flag false b = not b

abbrev pub same_bits : List Bool → List Bool → Bool
same_bits [] [] = true
same_bits [] (y ∷ ys) = false
same_bits (x ∷ xs) [] = false
same_bits (x ∷ xs) (y ∷ ys) = same_flag x y && same_bits xs ys

abbrev pub same_point : Point → Point → Bool
same_point a b = nat_eq a.line b.line && same_flag a.failed b.failed

abbrev pub same_frames : List Frame → List Frame → Bool
same_frames [] [] = true
same_frames [] (g ∷ gs) = false
same_frames (f ∷ fs) [] = false
same_frames (f ∷ fs) (g ∷ gs) = same_point f.point g.point && (same_bits f.locals g.locals && same_frames fs gs)

abbrev pub same_state : State → State → Bool
same_state s t = same_bits s.globals t.globals && same_frames s.frames t.frames

abbrev pub all_below : ℕ → (ℕ → Bool) → Bool
all_below zero test = true
all_below (suc n) test = test n && all_below n test

abbrev pub may_be : (ℕ → Bool) → Choice → Bool → Bool
may_be old Star b = true
may_be old (Is e) b = same_flag b (value_at old e)

abbrev pub becomes : Option Choice → (old kept : ℕ → Bool) → ℕ → Bool → Bool
becomes None old kept k b = same_flag b (kept k)
becomes (Some v) old kept k b = may_be old v b

-- targets got values, at this point above these frames
abbrev pub has_got : List ℕ → List Choice → (ℕ → Bool) → List Bool → List Bool → Point → List Frame → State → Bool
has_got targets values old globals locals point below to = elim to.frames [
  | [] ↦ false
  | f ∷ fs ↦ same_point f.point point && (same_frames fs below && (nat_eq (length to.globals) (length globals) && (nat_eq (length f.locals) (length locals)
      && all_below (length globals + length locals) (λ k. becomes (value_for targets values k) old (bits globals locals) k (bits to.globals f.locals k)))))
]

-- the first locals are the arguments
abbrev pub are_arguments : (ℕ → Bool) → List Choice → List Bool → Bool
are_arguments old [] locals = true
are_arguments old (v ∷ vs) [] = may_be old v false && are_arguments old vs []
are_arguments old (v ∷ vs) (b ∷ bs) = may_be old v b && are_arguments old vs bs

abbrev pub has_entered : Procedure → List Choice → (ℕ → Bool) → List Bool → List Frame → State → Bool
has_entered q arguments old globals below to = elim to.frames [
  | [] ↦ false
  | f ∷ fs ↦ same_bits to.globals globals && (same_point f.point (at_line (first_line q.body)) && (same_frames fs below && (nat_eq (length f.locals) (width q) && are_arguments old arguments f.locals)))
]

abbrev pub has_resumed : List Choice → (ℕ → Bool) → List Bool → Frame → List Frame → State → Option Instruction → Bool
has_resumed values old globals c below to None = false
has_resumed values old globals c below to (Some call) = elim call.statement [
  | Call targets callee arguments ↦ has_got targets values old globals c.locals (at_line call.next) below to
  | _ ↦ false
]

abbrev pub has_ended : Program → List Choice → (ℕ → Bool) → List Bool → List Frame → State → Bool
has_ended p values old globals [] to = same_state to (record { globals = globals; frames = [] })
has_ended p values old globals (c ∷ fs) to = has_resumed values old globals c fs to (instruction_at p c.point.line)

abbrev pub has_acted : Program → Instruction → List Bool → Frame → List Frame → State → Action → Bool
has_acted p i globals f below to (Jumps ways) =
    list_any (λ (w : Formula ℕ × Point). value_at (bits globals f.locals) w.0 && same_state to (on_top globals w.1 f.locals below)) ways
has_acted p i globals f below to (Sets targets values) = has_got targets values (bits globals f.locals) globals f.locals (at_line i.next) below to
has_acted p i globals f below to (Calls targets callee arguments) = elim (slice_get p.procs callee) [
  | None ↦ false
  | Some q ↦ has_entered q arguments (bits globals f.locals) globals (f ∷ below) to
]
has_acted p i globals f below to (Returns values) = has_ended p values (bits globals f.locals) globals below to

abbrev pub top_has_moved : Program → List Bool → Frame → List Frame → State → Bool
top_has_moved p globals f below to = elim f.point.failed [
  | true ↦ false
  | false ↦ elim (instruction_at p f.point.line) [ None ↦ false | Some i ↦ has_acted p i globals f below to (action p i) ]
]

-- the second state is a move of the first
abbrev pub has_moved : Program → State → State → Bool
has_moved p from to = elim from.frames [ [] ↦ false | f ∷ fs ↦ top_has_moved p from.globals f fs to ]
