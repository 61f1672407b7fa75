-- States of the machine as they are held.
use Rattle.std.proofs.Common.{◌≡◌, ℕ, Bool, List, [], ◌∷◌, length, map, refl, sym, ap, ap₂, ◌∙◌, subst}
use Rattle.std.specs.Prelude.{Option, None, Some, slice_get, option_map, unwrap_or}
use Rattle.boolean_programs.specs.Programs.{Procedure, Program, width}
use Rattle.boolean_programs.specs.Lines.{Instruction, instruction_at}
use Rattle.boolean_machine.specs.Machine.{Frame, State}
use Rattle.boolean_machine.specs.Picks.{listed}
use Rattle.boolean_machine.specs.States.{IsState, AreFrames, AreWaiting}
use Rattle.boolean_meaning.specs.Bits.{bit_of, number_of}
use Rattle.boolean_meaning.specs.HeldStates.{width_of, width_at, frame_of, state_of, held_frame, held, IsHeld}
use Rattle.boolean_programs.specs.Structure.{IsRead}
use Rattle.boolean_machine.specs.Machine.{IsStart}
use Rattle.boolean_meaning.specs.Steps.{first_frames, start_of}
use Rattle.boolean_meaning.proofs.ValueLemmas.{length_listed}
use Rattle.boolean_meaning.proofs.NumberLemmas.{bits_of_number}

-- ---- widths

abbrev width_by : Program → Option Instruction → ℕ
width_by p o = elim o [ None ↦ 0 | Some i ↦ width_of p i.procedure ]

pub width_there : (p : Program) (n : ℕ) (i : Instruction) → instruction_at p n ≡ Some i → width_at p n ≡ width_of p i.procedure
width_there p n i e = ap (width_by p) e

pub width_owner : (p : Program) (k : ℕ) (q : Procedure) → slice_get p.procs k ≡ Some q → width_of p k ≡ width q
width_owner p k q e = ap (λ o. unwrap_or (option_map width o) 0) e

-- ---- a state of the program is the one that is held

bits_back : (n : ℕ) (bs : List Bool) → length bs ≡ n → listed n (bit_of (number_of bs)) ≡ bs
bits_back n bs e = ap (λ k. listed k (bit_of (number_of bs))) (sym e) ∙ bits_of_number bs

module _ (p : Program) where
  frame_back : (f : Frame) → length f.locals ≡ width_at p f.point.line → frame_of p (held_frame f) ≡ f
  frame_back f e = ap (λ (bs : List Bool). let r : Frame = record { point = f.point; locals = bs } in r) (bits_back (width_at p f.point.line) f.locals e)

  waiting_back : (callee : ℕ) (fs : List Frame) → AreWaiting p callee fs → map (frame_of p) (map held_frame fs) ≡ fs
  waiting_back callee [] waiting = refl
  waiting_back callee (f ∷ fs) waiting =
      let at = waiting.1 in
      let wide : length f.locals ≡ width_at p f.point.line =
      at.wide ∙ sym (width_owner p waiting.0 at.owner at.found) ∙ ap (width_of p) (sym at.within) ∙ sym (width_there p f.point.line at.call at.there) in
      ap₂ (λ (g : Frame) (gs : List Frame). g ∷ gs) (frame_back f wide) (waiting_back waiting.0 fs waiting.2)

  frames_back : (fs : List Frame) → AreFrames p fs → map (frame_of p) (map held_frame fs) ≡ fs
  frames_back [] frames = refl
  frames_back (f ∷ fs) frames =
      let at = frames.1 in
      let wide : length f.locals ≡ width_at p f.point.line =
      at.wide ∙ sym (width_owner p frames.0 at.owner at.found) ∙ ap (width_of p) (sym at.point.owner) ∙ sym (width_there p f.point.line at.point.instruction at.point.there) in
      ap₂ (λ (g : Frame) (gs : List Frame). g ∷ gs) (frame_back f wide) (waiting_back frames.0 fs frames.2)

  pub state_back : (t : State) → IsState p t → state_of p (held t) ≡ t
  state_back t is =
      ap₂ (λ (bs : List Bool) (fs : List Frame). let r : State = record { globals = bs; frames = fs } in r)
      (bits_back p.globals t.globals is.globals) (frames_back t.frames is.frames)

  pub state_held : (t : State) → IsState p t → IsHeld p (held t)
  state_held t is =
      let back = state_back t is in
      record { is = subst (λ (u : State). IsState p u) (sym back) is; exact = ap held back }

-- a program begins with its starting states
pub starts : (p : Program) → IsRead p → (globals locals : ℕ → Bool) → IsStart p (start_of p globals locals)
starts p read globals locals = record {
  main = read.main;
  found = read.found;
  locals = listed (width read.main) locals;
  globals_are = length_listed p.globals globals;
  locals_are = length_listed (width read.main) locals;
  frames_are = ap (λ o. first_frames o locals) read.found;
}
