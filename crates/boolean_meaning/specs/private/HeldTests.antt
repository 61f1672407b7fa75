-- Tests of states and moves on states as they are held.
use Rattle.std.specs.Prelude.{ℕ, ◌^◌, Bool, true, false, not, ◌&&◌, ◌||◌, nat_lt, List, [], ◌∷◌, None, Some}
use Rattle.boolean_programs.specs.Programs.{Program}
use Rattle.boolean_programs.specs.Lines.{instruction_at}
use Rattle.boolean_machine.specs.Lawful.{is_assert}
use Rattle.boolean_machine.specs.StateTests.{calls}
use Rattle.boolean_meaning.specs.declared.state.Frame.{Frame as HeldFrame}
use Rattle.boolean_meaning.specs.declared.state.State.{State as HeldState}
use Rattle.boolean_meaning.specs.HeldStates.{width_of}

-- further bits than those of the names are 0
abbrev pub is_narrow : Program → ℕ → HeldFrame → Bool
is_narrow p k f = nat_lt f.locals (2 ^ width_of p k)

abbrev pub are_held_waiting : Program → ℕ → List HeldFrame → Bool
are_held_waiting p callee [] = true
are_held_waiting p callee (f ∷ fs) = elim (instruction_at p f.point.line) [
  | None ↦ false
  | Some i ↦ (not f.point.failed && calls i.statement callee) && (is_narrow p i.procedure f && are_held_waiting p i.procedure fs)
]

abbrev pub are_held_frames : Program → List HeldFrame → Bool
are_held_frames p [] = true
are_held_frames p (f ∷ fs) = elim (instruction_at p f.point.line) [
  | None ↦ false
  | Some i ↦ (not f.point.failed || is_assert i.statement) && (is_narrow p i.procedure f && are_held_waiting p i.procedure fs)
]

abbrev pub is_held_state : Program → HeldState → Bool
is_held_state p s = nat_lt s.globals (2 ^ p.globals) && are_held_frames p s.frames
