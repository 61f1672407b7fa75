-- A state that matches is the one that the stack and the settings stand for.
use Rattle.std.proofs.Common.{◌≡◌, ℕ, suc, ◌+◌, ◌-◌, ◌<◌, Bool, true, false, List, [], ◌∷◌, length, map, refl, sym, ap, ap₂, ◌∙◌, arith}
use Rattle.std.specs.Prelude.{Option, None, Some, slice_get, slice_index_or, option_map, unwrap_or}
use Rattle.std.proofs.lemmas.Option.{same_Some}
use Rattle.pushdown_rules.specs.RunValue.{Frame as SavedFrame}
use Rattle.boolean_programs.specs.Programs.{Procedure, Program, width}
use Rattle.boolean_programs.specs.Lines.{Instruction, code, line_numbers, instruction_at}
use Rattle.boolean_programs.specs.declared.point.Point.{Point}
use Rattle.boolean_machine.specs.Machine.{at_line, Frame, State}
use Rattle.boolean_programs.specs.Structure.{IsRead}
use Rattle.boolean_machine.proofs.CallerLemmas.{goes_on}
use Rattle.boolean_machine.proofs.CallerLemmas.{place_once}
use Rattle.boolean_machine.proofs.CallerLemmas.{next_follows}
use Rattle.boolean_machine.proofs.CallerLemmas.{get_map}
use Rattle.boolean_machine.specs.Picks.{listed}
use Rattle.boolean_machine.proofs.CallerLemmas.{listed_is}
use Rattle.setting_runs.specs.Relations.{Setting}
use Rattle.relation_weights.specs.declared.rel_map.Slot.{Slot}
use Rattle.lowering_laws.specs.Lowering.{first_local, slot_of, symbol_of}
use Rattle.lowering_laws.specs.States.{width_at, frame_of, point_at, waiting_of, state_of}
use Rattle.lowering_laws.proofs.NameLemmas.{slot_global, slot_local, bit_global, bit_local}
use Rattle.lowering_laws.proofs.PlanLemmas.{place_of_line}
use Rattle.lowering_laws.proofs.WithinLemmas.{point_of_symbol}
use Rattle.lowering_laws.proofs.MatchLemmas.{Waits, MatchesFrames, Matches}

module _ {Map : Type 0} (slots : Map → ℕ → Slot) (p : Program) (read : IsRead p) where
  frame_is : (f : Frame) (i : Instruction) (q : Procedure) (z : Setting) → instruction_at p f.point.line ≡ Some i → slice_get p.procs i.procedure ≡ Some q → length f.locals ≡ width q
      → ((j : ℕ) → j < length f.locals → z (first_local p + j) ≡ slice_index_or f.locals j false) → f ≡ frame_of p f.point z
  frame_is f i q z there found wide shows =
      let at : Option Instruction → ℕ = λ o. elim o [ None ↦ 0 | Some x ↦ unwrap_or (option_map width (slice_get p.procs x.procedure)) 0 ] in
      let count : width_at p f.point.line ≡ length f.locals = ap at there ∙ ap (λ o. unwrap_or (option_map width o) 0) found ∙ sym wide in
      let build : List Bool → Frame = λ ls. record { point = f.point; locals = ls } in
      ap build (listed_is f.locals (λ j. z (first_local p + j)) shows ∙ ap (λ m. listed m (λ j. z (first_local p + j))) (sym count))

  point_is : (point : Point) (g : ℕ) → symbol_of p point ≡ Some g → point_at p g ≡ point
  point_is point g e = ap (λ o. unwrap_or o (at_line 0)) (point_of_symbol p point g e)

  -- a call stands right above the line behind it
  above : (c : Frame) (call : Instruction) (g : ℕ) → c.point.failed ≡ false → instruction_at p c.point.line ≡ Some call → goes_on call.statement ≡ true → symbol_of p (at_line call.next) ≡ Some g → point_at p (g - 1) ≡ c.point
  above c call g whole there on symbol =
      let place = place_of_line p c.point.line call there in
      let follows = next_follows p read place.0 call place.2 on in
      let number : slice_get (line_numbers (code p)) (suc place.0) ≡ Some call.next = get_map (λ (x : Instruction). x.line) (code p) (suc place.0) follows.0 follows.1 ∙ ap Some follows.2 in
      let once : Some (suc place.0) ≡ Some g = sym (place_once 0 (line_numbers (code p)) (suc place.0) call.next read.rising number) ∙ symbol in
      let at : suc place.0 ≡ g = same_Some (suc place.0) g once in
      let before : g - 1 ≡ place.0 = omega arith in
      let own : at_line c.point.line ≡ c.point = ap (λ b. let x : Point = record { line = c.point.line; failed = b } in x) (sym whole) in
      ap (point_at p) before ∙ point_is (at_line c.point.line) place.0 place.1 ∙ own

  abbrev saves : List (SavedFrame Setting Map) → List Setting
  saves ms = map (λ (m : SavedFrame Setting Map). m.saved) ms

  waiting_is : (callee : ℕ) (fs : List Frame) (stack : List ℕ) (ms : List (SavedFrame Setting Map)) → Waits p slots callee fs stack ms → fs ≡ waiting_of p stack (saves ms)
  waiting_is callee [] [] [] waits = refl
  waiting_is callee [] [] (m ∷ ms) waits = absurd waits
  waiting_is callee [] (g ∷ stack) ms waits = absurd waits
  waiting_is callee (c ∷ fs) [] ms waits = absurd waits
  waiting_is callee (c ∷ fs) (g ∷ stack) [] waits = absurd waits
  waiting_is callee (c ∷ fs) (g ∷ stack) (m ∷ ms) waits =
      let w = waits.1 in
      let on : goes_on w.call.statement ≡ true = ap goes_on w.statement in
      let found : slice_get p.procs w.call.procedure ≡ Some w.owner = ap (slice_get p.procs) w.within ∙ w.found in
      let first : c ≡ frame_of p (point_at p (g - 1)) m.saved =
      frame_is c w.call w.owner m.saved w.there found w.wide w.shows ∙ ap (λ x. frame_of p x m.saved) (sym (above c w.call g w.whole w.there on w.symbol)) in
      ap₂ (λ (x : Frame) (xs : List Frame). x ∷ xs) first (waiting_is waits.0 fs stack ms waits.2)

  globals_are : (gs : List Bool) (z : Setting) → length gs ≡ p.globals → ((k : ℕ) → k < length gs → z k ≡ slice_index_or gs k false) → gs ≡ listed p.globals z
  globals_are gs z count shows = listed_is gs z shows ∙ ap (λ m. listed m z) count

  state_is : (gs : List Bool) (frames : List Frame) (stack : List ℕ) (ms : List (SavedFrame Setting Map)) (z : Setting) → length gs ≡ p.globals → MatchesFrames p slots gs frames stack ms z
      → record { globals = gs; frames = frames } ≡ state_of p stack (saves ms) z
  state_is gs [] [] ms z count matches =
      let build : List Bool → State = λ xs. record { globals = xs; frames = [] } in
      ap build (globals_are gs z count matches.1)
  state_is gs [] (g ∷ stack) ms z count matches = absurd matches
  state_is gs (f ∷ fs) [] ms z count matches = absurd matches
  state_is gs (f ∷ fs) (g ∷ stack) ms z count matches =
      let top = matches.1 in
      let build : List Bool → List Frame → State = λ xs ys. record { globals = xs; frames = ys } in
      let global : (k : ℕ) → k < length gs → z k ≡ slice_index_or gs k false =
      λ k h. let at = slot_global p k (omega arith) in ap z (sym at) ∙ top.shows k (omega arith) ∙ bit_global gs f.locals k h in
      let own : (j : ℕ) → j < length f.locals → z (first_local p + j) ≡ slice_index_or f.locals j false =
      λ j h.
      let at = slot_local p (length gs + j) (omega arith) in
      let same : first_local p + j ≡ slot_of p (length gs + j) = omega arith in
      let back : (length gs + j) - length gs ≡ j = omega arith in
      ap z same ∙ top.shows (length gs + j) (omega arith) ∙ bit_local gs f.locals (length gs + j) (omega arith) ∙ ap (λ m. slice_index_or f.locals m false) back in
      let found : slice_get p.procs top.point.instruction.procedure ≡ Some top.owner = ap (slice_get p.procs) top.point.owner ∙ top.found in
      let first : f ≡ frame_of p (point_at p g) z = frame_is f top.point.instruction top.owner z top.point.there found top.wide own ∙ ap (λ x. frame_of p x z) (sym (point_is f.point g top.symbol)) in
      ap₂ build (globals_are gs z count global) (ap₂ (λ (x : Frame) (xs : List Frame). x ∷ xs) first (waiting_is matches.0 fs stack ms matches.2))

  -- a state that matches is that of the stack and the settings
  pub state_matched : (state : State) (stack : List ℕ) (ms : List (SavedFrame Setting Map)) (z : Setting) → Matches p slots state stack ms z → state ≡ state_of p stack (saves ms) z
  state_matched state stack ms z matches = state_is state.globals state.frames stack ms z matches.globals matches.frames
