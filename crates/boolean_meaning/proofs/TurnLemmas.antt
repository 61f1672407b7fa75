-- Turns of the loops that test states and moves.
use Rattle.std.proofs.Common.{◌≡◌, ℕ, zero, suc, ◌+◌, ◌-◌, ◌<◌, ◌≤◌, Bool, true, false, not, ◌&&◌, nat_eq, nat_le, List, [], ◌∷◌, length, drop, refl, sym, ap, ap₂, ◌∙◌, arith}
use Rattle.std.specs.Prelude.{Option, None, Some, slice_get}
use Rattle.std.proofs.lemmas.Bool.Decides.{nat_tests}
use Rattle.boolean_programs.specs.declared.statement.Choice.{Choice}
use Rattle.boolean_programs.specs.Programs.{Program}
use Rattle.boolean_programs.specs.Lines.{Instruction, instruction_at}
use Rattle.boolean_machine.specs.Machine.{value_for}
use Rattle.boolean_machine.specs.StateTests.{calls}
use Rattle.boolean_machine.specs.Tests.{same_point, all_below, becomes}
use Rattle.boolean_meaning.specs.declared.state.Frame.{Frame}
use Rattle.boolean_meaning.specs.private.HeldMoves.{same_held_frames, have_got}
use Rattle.boolean_meaning.specs.private.HeldTests.{is_narrow, are_held_waiting}
use Rattle.boolean_meaning.specs.private.Outcomes.{bit_in}
use Rattle.boolean_meaning.proofs.PlaceLemmas.{drop_at, drop_none, drop_past}
use Rattle.boolean_meaning.proofs.SameLemmas.{true_and}

and_false : (a b : Bool) → a ≡ false → (a && b) ≡ false
and_false true b h = cc
and_false false b h = refl

grouped : (a b c : Bool) → (a && (b && c)) ≡ ((a && b) && c)
grouped true b c = refl
grouped false b c = refl

-- ---- frames from two places on

module _ (fs gs : List Frame) (j k : ℕ) where
  abbrev Same : (j k : ℕ) → Bool
  Same j k = same_held_frames (drop j fs) (drop k gs)

  module _ (f : Frame) (at : slice_get fs j ≡ Some f) where
    pub frames_end : slice_get gs k ≡ None → same_held_frames (drop j fs) (drop k gs) ≡ false
    frames_end e = ap₂ same_held_frames (drop_at fs j f at) (drop_none gs k e)

    module _ (g : Frame) (at' : slice_get gs k ≡ Some g) where
      frames_more : Same j k ≡ ((same_point f.point g.point && nat_eq f.locals g.locals) && Same (suc j) (suc k))
      frames_more =
          ap₂ same_held_frames (drop_at fs j f at) (drop_at gs k g at') ∙ grouped (same_point f.point g.point) (nat_eq f.locals g.locals) (Same (suc j) (suc k))

      pub frames_differ : (same_point f.point g.point && nat_eq f.locals g.locals) ≡ false → same_held_frames (drop j fs) (drop k gs) ≡ false
      frames_differ h = frames_more ∙ and_false (same_point f.point g.point && nat_eq f.locals g.locals) (Same (suc j) (suc k)) h

      pub frames_go_on : (same_point f.point g.point && nat_eq f.locals g.locals) ≡ true
          → same_held_frames (drop (j + 1) fs) (drop (k + 1) gs) ≡ same_held_frames (drop j fs) (drop k gs)
      frames_go_on h =
          ap₂ Same (let e : j + 1 ≡ suc j = omega arith in e) (let e : k + 1 ≡ suc k = omega arith in e)
          ∙ sym (frames_more ∙ true_and (same_point f.point g.point && nat_eq f.locals g.locals) (Same (suc j) (suc k)) h)

  none_left : (hs : List Frame) (m : ℕ) → same_held_frames [] (drop m hs) ≡ nat_le (length hs) m
  none_left [] zero = refl
  none_left [] (suc m) = let f : 0 ≤ suc m = omega arith in grind (arith, nat_tests)
  none_left (h ∷ hs) zero = let f : 0 < suc (length hs) = omega arith in grind (arith, nat_tests)
  none_left (h ∷ hs) (suc m) = none_left hs m ∙ grind (arith, nat_tests)

  pub frames_over : length fs ≤ j → same_held_frames (drop j fs) (drop k gs) ≡ nat_le (length gs) k
  frames_over h = ap (λ hs. same_held_frames hs (drop k gs)) (drop_past fs j h) ∙ none_left gs k

-- ---- frames that wait

module _ (p : Program) (frames : List Frame) (callee k : ℕ) (f : Frame) (at : slice_get frames k ≡ Some f) where
  abbrev Waiting : ℕ → ℕ → Bool
  Waiting procedure j = are_held_waiting p procedure (drop j frames)

  pub waits_nowhere : instruction_at p f.point.line ≡ None → are_held_waiting p callee (drop k frames) ≡ false
  waits_nowhere e =
      let test : Option Instruction → Bool = λ o. elim o [
        | None ↦ false
        | Some i ↦ (not f.point.failed && calls i.statement callee) && (is_narrow p i.procedure f && Waiting i.procedure (suc k))
      ] in
      ap (are_held_waiting p callee) (drop_at frames k f at) ∙ ap test e

  module _ (i : Instruction) (there : instruction_at p f.point.line ≡ Some i) where
    abbrev waits : Bool
    waits = (not f.point.failed && calls i.statement callee) && is_narrow p i.procedure f

    waiting_more : Waiting callee k ≡ (waits && Waiting i.procedure (suc k))
    waiting_more =
        let test : Option Instruction → Bool = λ o. elim o [
          | None ↦ false
          | Some x ↦ (not f.point.failed && calls x.statement callee) && (is_narrow p x.procedure f && Waiting x.procedure (suc k))
        ] in
        ap (are_held_waiting p callee) (drop_at frames k f at) ∙ ap test there
        ∙ grouped (not f.point.failed && calls i.statement callee) (is_narrow p i.procedure f) (Waiting i.procedure (suc k))

    pub waits_not : ((not f.point.failed && calls i.statement callee) && is_narrow p i.procedure f) ≡ false → are_held_waiting p callee (drop k frames) ≡ false
    waits_not h = waiting_more ∙ and_false waits (Waiting i.procedure (suc k)) h

    pub waits_on : ((not f.point.failed && calls i.statement callee) && is_narrow p i.procedure f) ≡ true
        → are_held_waiting p i.procedure (drop (k + 1) frames) ≡ are_held_waiting p callee (drop k frames)
    waits_on h =
        ap (λ j. Waiting i.procedure j) (let e : k + 1 ≡ suc k = omega arith in e)
        ∙ sym (waiting_more ∙ true_and waits (Waiting i.procedure (suc k)) h)

-- ---- names

all_more : (test : ℕ → Bool) (n : ℕ) → 0 < n → all_below n test ≡ (test (n - 1) && all_below (n - 1) test)
all_more test zero h = absurd (omega arith)
all_more test (suc n) h = ap (λ k. test k && all_below k test) (let e : n ≡ suc n - 1 = omega arith in e)

same_kept : (o : Option Choice) (old kept : ℕ → Bool) (k : ℕ) (b : Bool) → becomes o old (λ _. kept k) k b ≡ becomes o old kept k b
same_kept None old kept k b = refl
same_kept (Some v) old kept k b = refl

module _ (targets : List ℕ) (values : List Choice) (old kept new : List Bool) where
  abbrev gets : ℕ → Bool
  gets k = becomes (value_for targets values k) (bit_in old) (bit_in kept) k (bit_in new k)

  pub got_more : (n : ℕ) (given : Bool) (had has : Bool) → 0 < n
      → given ≡ becomes (value_for targets values (n - 1)) (bit_in old) (λ _. had) (n - 1) has → had ≡ bit_in kept (n - 1) → has ≡ bit_in new (n - 1) → given ≡ true
      → have_got targets values old kept new ≡ all_below n gets → have_got targets values old kept new ≡ all_below (n - 1) gets
  got_more n given had has h is x y t so_far =
      let o = value_for targets values (n - 1) in
      let here : gets (n - 1) ≡ true =
      sym (same_kept o (bit_in old) (bit_in kept) (n - 1) (bit_in new (n - 1)))
      ∙ ap₂ (λ a b. becomes o (bit_in old) (λ _. a) (n - 1) b) (sym x) (sym y) ∙ sym is ∙ t in
      so_far ∙ all_more gets n h ∙ true_and (gets (n - 1)) (all_below (n - 1) gets) here
