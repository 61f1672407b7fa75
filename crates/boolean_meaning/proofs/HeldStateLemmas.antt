-- The test of states as they are held.
use Rattle.std.proofs.Common.{◌≡◌, ◌↔◌, ℕ, ◌^◌, ◌<◌, Bool, true, false, not, ◌&&◌, ◌||◌, nat_eq, nat_lt, List, [], ◌∷◌, length, map, refl, sym, ap, ap₂, ◌∙◌, subst}
use Rattle.std.specs.Prelude.{Option, None, Some, IsTrue}
use Rattle.std.proofs.lemmas.Bool.{and_parts, and_from, ltb-true, lt-ltb, eq-eqb}
use Rattle.boolean_programs.specs.Programs.{Procedure, Program, width}
use Rattle.boolean_programs.specs.Lists.{place_in}
use Rattle.boolean_programs.specs.Lines.{Instruction, line_numbers, code, instruction_at}
use Rattle.boolean_programs.specs.Structure.{IsRead}
use Rattle.boolean_machine.specs.Machine.{Frame}
use Rattle.boolean_machine.specs.Lawful.{is_assert, is_point_of}
use Rattle.boolean_machine.specs.Picks.{listed}
use Rattle.boolean_machine.specs.States.{IsState}
use Rattle.boolean_machine.specs.StateTests.{has_width, calls, are_waiting, are_frames, is_state}
use Rattle.boolean_meaning.specs.declared.state.Frame.{Frame as HeldFrame}
use Rattle.boolean_meaning.specs.declared.state.State.{State as HeldState}
use Rattle.boolean_meaning.specs.Bits.{bit_of, number_of}
use Rattle.boolean_meaning.specs.HeldStates.{width_of, width_at, frame_of, state_of, held_frame, IsHeld}
use Rattle.boolean_meaning.specs.private.HeldTests.{is_narrow, are_held_waiting, are_held_frames, is_held_state}
use Rattle.boolean_meaning.proofs.NumberLemmas.{number_of_bits, number_below}
use Rattle.boolean_meaning.proofs.ValueLemmas.{length_listed}
use Rattle.boolean_meaning.proofs.SpotLemmas.{found_index}
use Rattle.boolean_meaning.proofs.StateLemmas.{width_there, width_owner}

-- ---- numbers whose further bits are 0

narrow_gives : (k n : ℕ) → nat_lt n (2 ^ k) ≡ true → number_of (listed k (bit_of n)) ≡ n
narrow_gives k n h = number_of_bits k n (ltb-true n (2 ^ k) h)

narrow_from : (k n : ℕ) → number_of (listed k (bit_of n)) ≡ n → nat_lt n (2 ^ k) ≡ true
narrow_from k n e =
    let bits = listed k (bit_of n) in
    let small : n < 2 ^ length bits = subst (λ m. m < 2 ^ length bits) e (number_below bits) in
    lt-ltb n (2 ^ k) (subst (λ j. n < 2 ^ j) (length_listed k (bit_of n)) small)

same_frame : (f g : HeldFrame) → f.point ≡ g.point → f.locals ≡ g.locals → f ≡ g
same_frame f g a b = ap₂ (λ x l. let h : HeldFrame = record { point = x; locals = l } in h) a b

module _ (p : Program) (read : IsRead p) where
  -- ---- one frame, at a line of the program

  module _ (f : HeldFrame) (i : Instruction) (at : instruction_at p f.point.line ≡ Some i) where
    abbrev free : Frame
    free = frame_of p f

    wide_there : width_at p f.point.line ≡ width_of p i.procedure
    wide_there = width_there p f.point.line i at

    wide_enough : has_width p i.procedure free.locals ≡ true
    wide_enough =
        let index = found_index (code p) (place_in (line_numbers (code p)) f.point.line) i at in
        let line = read.lines index.0 i index.1 in
        let test : Option Procedure → Bool = λ o. elim o [ None ↦ false | Some q ↦ nat_eq (length free.locals) (width q) ] in
        ap test line.found
        ∙ eq-eqb (length free.locals) (width line.owner)
        (length_listed (width_at p f.point.line) (bit_of f.locals) ∙ wide_there ∙ width_owner p i.procedure line.owner line.found)

    exact_gives : is_narrow p i.procedure f ≡ true → held_frame free ≡ f
    exact_gives h =
        same_frame (held_frame free) f refl (ap (λ w. number_of (listed w (bit_of f.locals))) wide_there ∙ narrow_gives (width_of p i.procedure) f.locals h)

    exact_from : held_frame free ≡ f → is_narrow p i.procedure f ≡ true
    exact_from e =
        narrow_from (width_of p i.procedure) f.locals
        (ap (λ w. number_of (listed w (bit_of f.locals))) (sym wide_there) ∙ ap (λ (h : HeldFrame). h.locals) e)

    -- the frame may stand at its point
    stands : is_point_of p i.procedure f.point ≡ (not f.point.failed || is_assert i.statement)
    stands =
        let test : Option Instruction → Bool = λ o. elim o [ None ↦ false | Some j ↦ nat_eq j.procedure i.procedure && (not f.point.failed || is_assert j.statement) ] in
        ap test at ∙ ap (λ b. b && (not f.point.failed || is_assert i.statement)) (eq-eqb i.procedure i.procedure refl)

  same_first : (f g : HeldFrame) (fs gs : List HeldFrame) → f ∷ fs ≡ g ∷ gs → f ≡ g
  same_first f g fs gs e = cc

  same_rest : (f g : HeldFrame) (fs gs : List HeldFrame) → f ∷ fs ≡ g ∷ gs → fs ≡ gs
  same_rest f g fs gs e = cc

  -- ---- frames that wait

  abbrev Exact : List HeldFrame → Type 0
  Exact fs = map held_frame (map (frame_of p) fs) ≡ fs

  waiting_gives : (fs : List HeldFrame) (callee : ℕ) → are_held_waiting p callee fs ≡ true → (are_waiting p callee (map (frame_of p) fs) ≡ true) × Exact fs
  waiting_gives [] callee h = (refl, refl)
  waiting_gives (f ∷ fs) callee h = by_line (instruction_at p f.point.line) refl h (λ k g. waiting_gives fs k g)
    where
      by_line : (o : Option Instruction) → instruction_at p f.point.line ≡ o
          → (elim o [ None ↦ false | Some i ↦ (not f.point.failed && calls i.statement callee) && (is_narrow p i.procedure f && are_held_waiting p i.procedure fs) ]) ≡ true
          → ((k : ℕ) → are_held_waiting p k fs ≡ true → (are_waiting p k (map (frame_of p) fs) ≡ true) × Exact fs)
          → (are_waiting p callee (frame_of p f ∷ map (frame_of p) fs) ≡ true) × Exact (f ∷ fs)
      by_line None at t more = cc
      by_line (Some i) at t more =
          let outer = and_parts (not f.point.failed && calls i.statement callee) (is_narrow p i.procedure f && are_held_waiting p i.procedure fs) t in
          let first = and_parts (not f.point.failed) (calls i.statement callee) outer.0 in
          let last = and_parts (is_narrow p i.procedure f) (are_held_waiting p i.procedure fs) outer.1 in
          let later = more i.procedure last.1 in
          let below = map (frame_of p) fs in
          let wide = has_width p i.procedure (frame_of p f).locals in
          let test : Option Instruction → Bool = λ o. elim o [
            | None ↦ false
            | Some x ↦ not f.point.failed && (calls x.statement callee && (has_width p x.procedure (frame_of p f).locals && are_waiting p x.procedure below))
          ] in (
            ap test at
                ∙ and_from (not f.point.failed) (calls i.statement callee && (wide && are_waiting p i.procedure below)) first.0
                (and_from (calls i.statement callee) (wide && are_waiting p i.procedure below) first.1
                (and_from wide (are_waiting p i.procedure below) (wide_enough f i at) later.0)),
            ap₂ (λ (g : HeldFrame) (gs : List HeldFrame). g ∷ gs) (exact_gives f i at last.0) later.1,
          )

  waiting_from : (fs : List HeldFrame) (callee : ℕ) → are_waiting p callee (map (frame_of p) fs) ≡ true → Exact fs → are_held_waiting p callee fs ≡ true
  waiting_from [] callee h exact = refl
  waiting_from (f ∷ fs) callee h exact =
      by_line (instruction_at p f.point.line) refl h
      (λ k g. waiting_from fs k g (same_rest (held_frame (frame_of p f)) f (map held_frame (map (frame_of p) fs)) fs exact))
    where
      by_line : (o : Option Instruction) → instruction_at p f.point.line ≡ o
          → (elim o [
            | None ↦ false
            | Some x ↦ not f.point.failed && (calls x.statement callee && (has_width p x.procedure (frame_of p f).locals && are_waiting p x.procedure (map (frame_of p) fs)))
          ]) ≡ true
          → ((k : ℕ) → are_waiting p k (map (frame_of p) fs) ≡ true → are_held_waiting p k fs ≡ true)
          → are_held_waiting p callee (f ∷ fs) ≡ true
      by_line None at t more = cc
      by_line (Some i) at t more =
          let below = map (frame_of p) fs in
          let wide = has_width p i.procedure (frame_of p f).locals in
          let first = and_parts (not f.point.failed) (calls i.statement callee && (wide && are_waiting p i.procedure below)) t in
          let second = and_parts (calls i.statement callee) (wide && are_waiting p i.procedure below) first.1 in
          let third = and_parts wide (are_waiting p i.procedure below) second.1 in
          let narrow = exact_from f i at (same_first (held_frame (frame_of p f)) f (map held_frame below) fs exact) in
          let test : Option Instruction → Bool = λ o. elim o [
            | None ↦ false
            | Some x ↦ (not f.point.failed && calls x.statement callee) && (is_narrow p x.procedure f && are_held_waiting p x.procedure fs)
          ] in
          ap test at
          ∙ and_from (not f.point.failed && calls i.statement callee) (is_narrow p i.procedure f && are_held_waiting p i.procedure fs)
          (and_from (not f.point.failed) (calls i.statement callee) first.0 second.0)
          (and_from (is_narrow p i.procedure f) (are_held_waiting p i.procedure fs) narrow (more i.procedure third.1))

  -- ---- all frames

  frames_give : (fs : List HeldFrame) → are_held_frames p fs ≡ true → (are_frames p (map (frame_of p) fs) ≡ true) × Exact fs
  frames_give [] h = (refl, refl)
  frames_give (f ∷ fs) h = by_line (instruction_at p f.point.line) refl h
    where
      by_line : (o : Option Instruction) → instruction_at p f.point.line ≡ o
          → (elim o [ None ↦ false | Some i ↦ (not f.point.failed || is_assert i.statement) && (is_narrow p i.procedure f && are_held_waiting p i.procedure fs) ]) ≡ true
          → (are_frames p (frame_of p f ∷ map (frame_of p) fs) ≡ true) × Exact (f ∷ fs)
      by_line None at t = cc
      by_line (Some i) at t =
          let outer = and_parts (not f.point.failed || is_assert i.statement) (is_narrow p i.procedure f && are_held_waiting p i.procedure fs) t in
          let last = and_parts (is_narrow p i.procedure f) (are_held_waiting p i.procedure fs) outer.1 in
          let later = waiting_gives fs i.procedure last.1 in
          let below = map (frame_of p) fs in
          let wide = has_width p i.procedure (frame_of p f).locals in
          let test : Option Instruction → Bool = λ o. elim o [
            | None ↦ false
            | Some x ↦ is_point_of p x.procedure f.point && (has_width p x.procedure (frame_of p f).locals && are_waiting p x.procedure below)
          ] in (
            ap test at
                ∙ and_from (is_point_of p i.procedure f.point) (wide && are_waiting p i.procedure below) (stands f i at ∙ outer.0)
                (and_from wide (are_waiting p i.procedure below) (wide_enough f i at) later.0),
            ap₂ (λ (g : HeldFrame) (gs : List HeldFrame). g ∷ gs) (exact_gives f i at last.0) later.1,
          )

  frames_from : (fs : List HeldFrame) → are_frames p (map (frame_of p) fs) ≡ true → Exact fs → are_held_frames p fs ≡ true
  frames_from [] h exact = refl
  frames_from (f ∷ fs) h exact = by_line (instruction_at p f.point.line) refl h
    where
      by_line : (o : Option Instruction) → instruction_at p f.point.line ≡ o
          → (elim o [
            | None ↦ false
            | Some x ↦ is_point_of p x.procedure f.point && (has_width p x.procedure (frame_of p f).locals && are_waiting p x.procedure (map (frame_of p) fs))
          ]) ≡ true
          → are_held_frames p (f ∷ fs) ≡ true
      by_line None at t = cc
      by_line (Some i) at t =
          let below = map (frame_of p) fs in
          let wide = has_width p i.procedure (frame_of p f).locals in
          let first = and_parts (is_point_of p i.procedure f.point) (wide && are_waiting p i.procedure below) t in
          let second = and_parts wide (are_waiting p i.procedure below) first.1 in
          let narrow = exact_from f i at (same_first (held_frame (frame_of p f)) f (map held_frame below) fs exact) in
          let later = waiting_from fs i.procedure second.1 (same_rest (held_frame (frame_of p f)) f (map held_frame below) fs exact) in
          let test : Option Instruction → Bool = λ o. elim o [
            | None ↦ false
            | Some x ↦ (not f.point.failed || is_assert x.statement) && (is_narrow p x.procedure f && are_held_waiting p x.procedure fs)
          ] in
          ap test at
          ∙ and_from (not f.point.failed || is_assert i.statement) (is_narrow p i.procedure f && are_held_waiting p i.procedure fs) (sym (stands f i at) ∙ first.0)
          (and_from (is_narrow p i.procedure f) (are_held_waiting p i.procedure fs) narrow later)

  -- the test is true of the states of the program as they are held
  pub held_tested : (s : HeldState) → IsTrue (is_state p (state_of p s)) ↔ IsState p (state_of p s) → IsTrue (is_held_state p s) ↔ IsHeld p s
  held_tested s tested = (
    (λ h.
        let parts = and_parts (nat_lt s.globals (2 ^ p.globals)) (are_held_frames p s.frames) h in
        let frames = frames_give s.frames parts.1 in
        let long = eq-eqb (length (state_of p s).globals) p.globals (length_listed p.globals (bit_of s.globals)) in
        record {
          is = tested.0 (and_from (nat_eq (length (state_of p s).globals) p.globals) (are_frames p (state_of p s).frames) long frames.0);
          exact =
              ap₂ (λ g (fs : List HeldFrame). let t : HeldState = record { globals = g; frames = fs } in t) (narrow_gives p.globals s.globals parts.0) frames.1;
        }),
    λ is.
        let parts = and_parts (nat_eq (length (state_of p s).globals) p.globals) (are_frames p (state_of p s).frames) (tested.1 is.is) in
        and_from (nat_lt s.globals (2 ^ p.globals)) (are_held_frames p s.frames)
        (narrow_from p.globals s.globals (ap (λ (t : HeldState). t.globals) is.exact))
        (frames_from s.frames parts.1 (ap (λ (t : HeldState). t.frames) is.exact)),
  )
