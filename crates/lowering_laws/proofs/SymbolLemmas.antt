-- Symbols and their points, and the stacks of states.
use Rattle.std.specs.List.{range_with_len}
use Rattle.std.proofs.Common.{◌≡◌, ℕ, zero, suc, ◌+◌, ◌<◌, ◌≤◌, Bool, true, false, ◌||◌, List, [], ◌∷◌, length, map, refl, sym, ap, ap₂, ◌∙◌, arith, nat_eq}
use Rattle.std.specs.Prelude.{Option, None, Some, slice_get, option_map, unwrap_or, IsTrue}
use Rattle.std.proofs.lemmas.Bool.Decides.{nat_tests}
use Rattle.std.proofs.lemmas.Bool.{eqb-true, eq-eqb, and_parts, and_from}
use Rattle.std.proofs.lemmas.List.{length-map}
use Rattle.std.proofs.lemmas.Option.{same_Some, slice_get_within}
use Rattle.pushdown_rules.specs.Configuration.{Configuration, at_stack}
use Rattle.pushdown_rules.specs.RunValue.{Frame as SavedFrame}
use Rattle.config_patterns.specs.Membership.{has_symbol, takes_any, takes_one, items_match, is_bare, has_member}
use Rattle.boolean_programs.specs.Programs.{Program}
use Rattle.boolean_programs.specs.Lines.{Instruction, code, line_numbers}
use Rattle.boolean_programs.specs.Lists.{place_in}
use Rattle.boolean_programs.specs.declared.point.Point.{Point}
use Rattle.boolean_machine.specs.Machine.{at_line, Frame, State}
use Rattle.setting_runs.specs.Relations.{Setting}
use Rattle.relation_weights.specs.declared.rel_map.Slot.{Slot}
use Rattle.lowering_laws.specs.Lowering.{symbol_of, symbol, symbols, assert_lines}
use Rattle.lowering_laws.specs.Queries.{entry_point, entry_pattern, point_pattern, waiting_symbol, stack_of}
use Rattle.lowering_laws.proofs.PlaceLemmas.{place_is}
use Rattle.lowering_laws.proofs.MatchLemmas.{Waits, MatchesFrames, Matches}

module _ (p : Program) where
  abbrev by_kind : ℕ → Bool → Option ℕ
  by_kind line b = elim b [ false ↦ place_in (line_numbers (code p)) line | true ↦ option_map (λ k. length (code p) + k) (place_in (assert_lines p) line) ]

  past_code : (o : Option ℕ) (k : ℕ) → option_map (λ j. length (code p) + j) o ≡ Some k → (j : ℕ) × (o ≡ Some j) × (k ≡ length (code p) + j)
  past_code None k e = cc
  past_code (Some j) k e = (j, refl, sym (same_Some (length (code p) + j) k e))

  within_code : (line k : ℕ) → place_in (line_numbers (code p)) line ≡ Some k → k < length (code p)
  within_code line k e =
      let small : k < length (line_numbers (code p)) = slice_get_within (line_numbers (code p)) k line (place_is (line_numbers (code p)) line k e) in
      let long = length-map (code p) (λ (i : Instruction). i.line) in
      omega arith

  -- a symbol is below their number
  symbol_small : (line : ℕ) (failed : Bool) (g : ℕ) → by_kind line failed ≡ Some g → g < symbols p
  symbol_small line false g e = let small = within_code line g e in omega arith
  symbol_small line true g e =
      let past = past_code (place_in (assert_lines p) line) g e in
      let small : past.0 < length (assert_lines p) = slice_get_within (assert_lines p) past.0 line (place_is (assert_lines p) line past.0 past.1) in
      let at = past.2 in
      omega arith

  pub symbol_within : (point : Point) (g : ℕ) → symbol_of p point ≡ Some g → g < symbols p
  symbol_within point g e = symbol_small point.line point.failed g e

  abbrev point_at : ℕ → Bool → Point
  point_at line failed = record { line = line; failed = failed }

  same_point : (a b : ℕ) (f h : Bool) (g : ℕ) → by_kind a f ≡ Some g → by_kind b h ≡ Some g → point_at a f ≡ point_at b h
  same_point a b false false g e d =
      ap (λ l. point_at l false) (same_Some a b (sym (place_is (line_numbers (code p)) a g e) ∙ place_is (line_numbers (code p)) b g d))
  same_point a b false true g e d =
      let small = within_code a g e in
      let past = past_code (place_in (assert_lines p) b) g d in
      let at = past.2 in
      absurd (omega arith)
  same_point a b true false g e d =
      let small = within_code b g d in
      let past = past_code (place_in (assert_lines p) a) g e in
      let at = past.2 in
      absurd (omega arith)
  same_point a b true true g e d =
      let first = past_code (place_in (assert_lines p) a) g e in
      let second = past_code (place_in (assert_lines p) b) g d in
      let x = first.2 in
      let y = second.2 in
      let same : first.0 ≡ second.0 = omega arith in
      let numbers : Some a ≡ Some b = sym (place_is (assert_lines p) a first.0 first.1) ∙ ap (slice_get (assert_lines p)) same ∙ place_is (assert_lines p) b second.0 second.1 in
      ap (λ l. point_at l true) (same_Some a b numbers)

  -- two points with one symbol are one
  pub symbol_tells : (a b : Point) (g : ℕ) → symbol_of p a ≡ Some g → symbol_of p b ≡ Some g → a ≡ b
  symbol_tells a b g e d = same_point a.line b.line a.failed b.failed g e d

  -- ---- patterns

  pub has_range : (from n g : ℕ) → from ≤ g → g < from + n → has_symbol g (range_with_len from n) ≡ true
  has_range from zero g low high = absurd (omega arith)
  has_range from (suc n) g low high = by_test (nat_eq from g) refl (λ differs. has_range (from + 1) n g differs (omega arith))
    where
      or_true : (b c : Bool) → c ≡ true → (b || c) ≡ true
      or_true true c e = refl
      or_true false c e = e

      by_test : (b : Bool) → nat_eq from g ≡ b → (from + 1 ≤ g → has_symbol g (range_with_len (from + 1) n) ≡ true) → (nat_eq from g || has_symbol g (range_with_len (from + 1) n)) ≡ true
      by_test true e more = ap (λ b. b || has_symbol g (range_with_len (from + 1) n)) e
      by_test false e more = or_true (nat_eq from g) (has_symbol g (range_with_len (from + 1) n)) (more (above e))
        where
          above : nat_eq from g ≡ false → from + 1 ≤ g
          above e = grind (arith, nat_tests)

  all_taken : (stack : List ℕ) → ((k g : ℕ) → slice_get stack k ≡ Some g → g < symbols p) → takes_any (range_with_len 0 (symbols p)) is_bare stack ≡ true
  all_taken [] below = refl
  all_taken (g ∷ stack) below =
      and_from (has_symbol g (range_with_len 0 (symbols p))) (takes_any (range_with_len 0 (symbols p)) is_bare stack) (has_range 0 (symbols p) g (omega arith) (let b = below 0 g refl in omega arith)) (all_taken stack (λ k h e. below (suc k) h e))

  one_of_one : (g h : ℕ) → has_symbol g (h ∷ []) ≡ true → h ≡ g
  one_of_one g h e = eqb-true h g (or_false (nat_eq h g) e)
    where
      or_false : (b : Bool) → (b || false) ≡ true → b ≡ true
      or_false true e = refl
      or_false false e = e

  is_one : (g : ℕ) → has_symbol g (g ∷ []) ≡ true
  is_one g = ap (λ b. b || false) (eq-eqb g g refl)

  pub member_of_point : (point : Point) (rest : List ℕ) → ((k g : ℕ) → slice_get rest k ≡ Some g → g < symbols p) → IsTrue (has_member (point_pattern p point) (at_stack 0 (symbol p point ∷ rest)))
  member_of_point point rest below = and_from (has_symbol (symbol p point) (symbol p point ∷ [])) (takes_any (range_with_len 0 (symbols p)) is_bare rest) (is_one (symbol p point)) (all_taken rest below)

  top_of_member : (g : ℕ) (stack : List ℕ) (more : List ℕ → Bool) → takes_one (g ∷ []) more stack ≡ true → (rest : List ℕ) × (stack ≡ g ∷ rest) × (more rest ≡ true)
  top_of_member g [] more e = cc
  top_of_member g (h ∷ stack) more e =
      let parts = and_parts (has_symbol h (g ∷ [])) (more stack) e in
      (stack, ap (λ x. x ∷ stack) (sym (one_of_one h g parts.0)), parts.1)

  pub point_of_member : (point : Point) (d : Configuration) → IsTrue (has_member (point_pattern p point) d) → (rest : List ℕ) × (d.stack ≡ symbol p point ∷ rest)
  point_of_member point d e =
      let parts = and_parts (nat_eq d.control 0) (items_match (point_pattern p point).items d.stack) e in
      let top = top_of_member (symbol p point) d.stack (takes_any (range_with_len 0 (symbols p)) is_bare) parts.1 in
      (top.0, top.1)

  pub member_of_entry : IsTrue (has_member (entry_pattern p) (at_stack 0 (symbol p (entry_point p) ∷ [])))
  member_of_entry = and_from (has_symbol (symbol p (entry_point p)) (symbol p (entry_point p) ∷ [])) true (is_one (symbol p (entry_point p))) refl

  bare : (stack : List ℕ) → is_bare stack ≡ true → stack ≡ []
  bare [] e = refl
  bare (g ∷ stack) e = cc

  pub entry_of_member : (c : Configuration) → IsTrue (has_member (entry_pattern p) c) → c ≡ at_stack 0 (symbol p (entry_point p) ∷ [])
  entry_of_member c e =
      let parts = and_parts (nat_eq c.control 0) (items_match (entry_pattern p).items c.stack) e in
      let top = top_of_member (symbol p (entry_point p)) c.stack is_bare parts.1 in
      ap₂ at_stack (eqb-true c.control 0 parts.0) (top.1 ∙ ap (λ (st : List ℕ). symbol p (entry_point p) ∷ st) (bare top.0 top.2))

-- ---- stacks of states

module _ {Map : Type 0} (p : Program) (slots : Map → ℕ → Slot) where
  pub waits_below : (callee : ℕ) (fs : List Frame) (stack : List ℕ) (ms : List (SavedFrame Setting Map)) → Waits p slots callee fs stack ms → (k g : ℕ) → slice_get stack k ≡ Some g → g < symbols p
  waits_below callee [] [] [] waits k g e = cc
  waits_below callee [] [] (m ∷ ms) waits k g e = absurd waits
  waits_below callee [] (h ∷ stack) ms waits k g e = absurd waits
  waits_below callee (f ∷ fs) [] ms waits k g e = absurd waits
  waits_below callee (f ∷ fs) (h ∷ stack) [] waits k g e = absurd waits
  waits_below callee (f ∷ fs) (h ∷ stack) (m ∷ ms) waits zero g e =
      symbol_within p (at_line waits.1.call.next) g (waits.1.symbol ∙ e)
  waits_below callee (f ∷ fs) (h ∷ stack) (m ∷ ms) waits (suc k) g e = waits_below waits.0 fs stack ms waits.2 k g e

  known : (point : Point) (g : ℕ) → symbol_of p point ≡ Some g → symbol p point ≡ g
  known point g e = ap (λ o. unwrap_or o 0) e

  waiting_stack : (callee : ℕ) (fs : List Frame) (stack : List ℕ) (ms : List (SavedFrame Setting Map)) → Waits p slots callee fs stack ms → map (waiting_symbol p) fs ≡ stack
  waiting_stack callee [] [] [] waits = refl
  waiting_stack callee [] [] (m ∷ ms) waits = absurd waits
  waiting_stack callee [] (h ∷ stack) ms waits = absurd waits
  waiting_stack callee (f ∷ fs) [] ms waits = absurd waits
  waiting_stack callee (f ∷ fs) (h ∷ stack) [] waits = absurd waits
  waiting_stack callee (f ∷ fs) (h ∷ stack) (m ∷ ms) waits =
      let read : Option Instruction → ℕ = λ o. elim o [ None ↦ 0 | Some i ↦ symbol p (at_line i.next) ] in
      let first : waiting_symbol p f ≡ h = ap read waits.1.there ∙ known (at_line waits.1.call.next) h waits.1.symbol in
      ap₂ (λ (x : ℕ) (xs : List ℕ). x ∷ xs) first (waiting_stack waits.0 fs stack ms waits.2)

  stack_of_frames : (gs : List Bool) (frames : List Frame) (stack : List ℕ) (ms : List (SavedFrame Setting Map)) (z : Setting) → MatchesFrames p slots gs frames stack ms z
      → stack_of p (record { globals = gs; frames = frames }) ≡ stack
  stack_of_frames gs [] [] ms z matches = refl
  stack_of_frames gs [] (g ∷ stack) ms z matches = absurd matches
  stack_of_frames gs (f ∷ fs) [] ms z matches = absurd matches
  stack_of_frames gs (f ∷ fs) (g ∷ stack) ms z matches =
      ap₂ (λ (x : ℕ) (xs : List ℕ). x ∷ xs) (known f.point g matches.1.symbol) (waiting_stack matches.0 fs stack ms matches.2)

  -- a state that matches stands for the configuration
  pub stack_matched : (state : State) (stack : List ℕ) (ms : List (SavedFrame Setting Map)) (z : Setting) → Matches p slots state stack ms z → stack_of p state ≡ stack
  stack_matched state stack ms z matches = stack_of_frames state.globals state.frames stack ms z matches.frames
