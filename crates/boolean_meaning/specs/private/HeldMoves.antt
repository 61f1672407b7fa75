-- Moves as a test on states as they are held.
use Rattle.std.specs.Prelude.{ℕ, Bool, true, false, not, ◌&&◌, ◌||◌, nat_eq, is_some, is_none, List, [], ◌∷◌, length, replicate, drop, Option, None, Some, slice_get, if◌then◌else◌}
use Rattle.boolean_programs.specs.declared.point.Point.{Point}
use Rattle.boolean_programs.specs.declared.statement.Choice.{Choice}
use Rattle.boolean_programs.specs.declared.statement.Choice.TheVariants.{Star, Is}
use Rattle.boolean_programs.specs.declared.statement.Statement.{Statement}
use Rattle.boolean_programs.specs.declared.statement.Statement.TheVariants.{Assign, Goto, Call, Return, If, While, EndProc}
use Rattle.boolean_programs.specs.Lists.{place_in}
use Rattle.boolean_programs.specs.Programs.{Procedure, Program, width}
use Rattle.boolean_programs.specs.Lines.{Instruction, instruction_at, first_line}
use Rattle.boolean_machine.specs.Machine.{at_line, value_at, value_for, returns_of}
use Rattle.boolean_machine.specs.Picks.{listed}
use Rattle.boolean_machine.specs.Tests.{same_point, all_below, becomes, are_arguments}
use Rattle.boolean_meaning.specs.declared.state.Frame.{Frame as HeldFrame}
use Rattle.boolean_meaning.specs.declared.state.State.{State as HeldState}
use Rattle.boolean_meaning.specs.Bits.{bit_of}
use Rattle.boolean_meaning.specs.private.Outcomes.{bit_in, names_in, target_point}

abbrev pub same_held_frames : List HeldFrame → List HeldFrame → Bool
same_held_frames [] [] = true
same_held_frames [] (g ∷ gs) = false
same_held_frames (f ∷ fs) [] = false
same_held_frames (f ∷ fs) (g ∷ gs) = same_point f.point g.point && (nat_eq f.locals g.locals && same_held_frames fs gs)

-- names that had some bits got others
abbrev pub have_got : List ℕ → List Choice → (old kept new : List Bool) → Bool
have_got targets values old kept new =
    all_below (length kept) (λ k. becomes (value_for targets values k) (bit_in old) (bit_in kept) k (bit_in new k))

-- a frame goes on at the line below, where targets got values
abbrev pub held_got : Program → Instruction → List ℕ → List Choice → List Bool → HeldState → HeldState → HeldFrame → List HeldFrame → Option HeldFrame → Bool
held_got p i targets values old from to c below None = false
held_got p i targets values old from to c below (Some f) =
    same_point f.point (at_line i.next)
    && (same_held_frames (drop 1 to.frames) below
    && have_got targets values old (names_in p i.procedure from.globals c.locals) (names_in p i.procedure to.globals f.locals))

abbrev pub is_point : Option Point → Point → Bool
is_point None point = false
is_point (Some q) point = same_point point q

abbrev pub may_choose : Instruction → (ℕ → Bool) → Point → Choice → Bool
may_choose i old point Star = same_point point (at_line i.next) || same_point point (at_line i.other)
may_choose i old point (Is e) = same_point point (if value_at old e then at_line i.next else at_line i.other)

-- a line that only jumps may lead to a point
abbrev pub may_lead : Instruction → (ℕ → Bool) → Point → Statement → Bool
may_lead i old point (Goto lines) = not point.failed && is_some (place_in lines point.line)
may_lead i old point (If c) = may_choose i old point c
may_lead i old point (While c) = may_choose i old point c
may_lead i old point s = is_point (target_point i 0 old s) point

abbrev pub held_jumped : Instruction → Statement → (ℕ → Bool) → HeldState → HeldState → ℕ → Option HeldFrame → Bool
held_jumped i s old from to locals None = false
held_jumped i s old from to locals (Some f) =
    nat_eq to.globals from.globals && (may_lead i old f.point s && (nat_eq f.locals locals && same_held_frames (drop 1 to.frames) (drop 1 from.frames)))

abbrev pub held_entered : Option Procedure → List Choice → (ℕ → Bool) → HeldState → HeldState → Option HeldFrame → Bool
held_entered None arguments old from to o = false
held_entered (Some q) arguments old from to None = false
held_entered (Some q) arguments old from to (Some f) =
    nat_eq to.globals from.globals
    && (same_point f.point (at_line (first_line q.body))
    && (same_held_frames (drop 1 to.frames) from.frames && are_arguments old arguments (listed (width q) (bit_of f.locals))))

abbrev pub held_went_on : Program → List Choice → List Bool → HeldState → HeldState → HeldFrame → Option Instruction → Bool
held_went_on p values old from to c None = false
held_went_on p values old from to c (Some call) = elim call.statement [
  | Call targets callee arguments ↦ held_got p call targets values old from to c (drop 1 (drop 1 from.frames)) (slice_get to.frames 0)
  | _ ↦ false
]

abbrev pub held_returned : Program → List Choice → List Bool → HeldState → HeldState → Option HeldFrame → Bool
held_returned p values old from to None = nat_eq to.globals from.globals && is_none (slice_get to.frames 0)
held_returned p values old from to (Some c) = held_went_on p values old from to c (instruction_at p c.point.line)

abbrev pub has_held_acted : Program → Instruction → Statement → List Bool → HeldFrame → HeldState → HeldState → Bool
has_held_acted p i (Assign targets values) old top from to = held_got p i targets values old from to top (drop 1 from.frames) (slice_get to.frames 0)
has_held_acted p i (Call targets callee arguments) old top from to = held_entered (slice_get p.procs callee) arguments (bit_in old) from to (slice_get to.frames 0)
has_held_acted p i (Return values) old top from to = held_returned p values old from to (slice_get from.frames 1)
has_held_acted p i EndProc old top from to = held_returned p (replicate (returns_of p i.procedure) Star) old from to (slice_get from.frames 1)
has_held_acted p i s old top from to = held_jumped i s (bit_in old) from to top.locals (slice_get to.frames 0)

abbrev pub has_held_top_moved : Program → HeldFrame → HeldState → HeldState → Option Instruction → Bool
has_held_top_moved p top from to None = false
has_held_top_moved p top from to (Some i) = has_held_acted p i i.statement (names_in p i.procedure from.globals top.locals) top from to

-- the second state is a move of the first
abbrev pub has_held_moved : Program → HeldState → HeldState → Bool
has_held_moved p from to = elim (slice_get from.frames 0) [
  | None ↦ false
  | Some f ↦ if f.point.failed then false else has_held_top_moved p f from to (instruction_at p f.point.line)
]
