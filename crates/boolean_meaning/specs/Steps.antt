-- What the calls of this crate answer.
use Rattle.std.specs.Prelude.{◌≡◌, ℕ, Bool, true, false, List, [], ◌∷◌, Option, None, Some, slice_get, MatchOption}
use Rattle.boolean_programs.specs.Programs.{Procedure, Program, width}
use Rattle.boolean_programs.specs.Lines.{first_line}
use Rattle.boolean_machine.specs.Machine.{at_line, Frame, State, Moves}
use Rattle.boolean_machine.specs.Picks.{listed, step_of}
use Rattle.boolean_meaning.specs.declared.state.State.{State as HeldState}
use Rattle.boolean_meaning.specs.Bits.{bit_of}
use Rattle.boolean_meaning.specs.HeldStates.{state_of, held, IsHeld}

-- the procedure that is called `main`
abbrev pub main_in : Program → Option Procedure
main_in p = slice_get p.procs p.main

-- the frame that main begins with, where its names have these bits
abbrev pub first_frames : Option Procedure → (ℕ → Bool) → List Frame
first_frames None locals = []
first_frames (Some main) locals = record { point = at_line (first_line main.body); locals = listed (width main) locals } ∷ []

-- the state that a program begins with, where its globals and main's names have these bits
abbrev pub start_of : Program → (globals locals : ℕ → Bool) → State
start_of p globals locals = record { globals = listed p.globals globals; frames = first_frames (main_in p) locals }

-- What `step` answers: whether there is a move with the pick. Then the new state is that move, and else the old one.
abbrev pub IsStepped : Program → ℕ → ℕ → HeldState → Bool → HeldState → Type 0
IsStepped p target bits old moved new = MatchOption (step_of p (state_of p old) target (bit_of bits)) ((moved ≡ false) × (new ≡ old)) (λ t. (moved ≡ true) × (new ≡ held t))

-- two states of the program, of which the second is a move of the first
pub record IsHeldMove (p : Program) (from to : HeldState) : Type 0 where
  pub from_is : IsHeld p from
  pub to_is : IsHeld p to
  pub moves : Moves p (state_of p from) (state_of p to)
