-- Planned rules are over the lowering's symbols and variables.
use Rattle.std.specs.List.{range_with_len}
use Rattle.std.proofs.Common.{◌≡◌, ◌↔◌, ℕ, zero, suc, ◌+◌, ◌<◌, ◌≤◌, Bool, true, false, ◌&&◌, List, [], ◌∷◌, ◌++◌, length, map, replicate, refl, sym, ap, ◌∙◌, subst, arith, nat_lt, ◌⊎◌, inl, inr, if◌then◌else◌}
use Rattle.std.specs.Prelude.{Option, None, Some, slice_get, option_map, unwrap_or, IsTrue, IsSome}
use Rattle.std.proofs.lemmas.Bool.Decides.{nat_tests}
use Rattle.std.proofs.lemmas.Bool.{and_parts, and_from}
use Rattle.std.proofs.lemmas.List.{length-map}
use Rattle.std.proofs.lemmas.Option.{same_Some, slice_get_within}
use Rattle.std.proofs.Math.ListN.{length-replicate, length-append}
use Rattle.truth_tables.specs.Formulas.{Formula, Constant, Variable, Opposite, Binary, Ternary, is_over, renamed}
use Rattle.boolean_programs.specs.declared.statement.Choice.{Choice}
use Rattle.boolean_programs.specs.declared.statement.Choice.TheVariants.{Star, Is}
use Rattle.boolean_programs.specs.Programs.{Procedure, Program, width}
use Rattle.boolean_programs.specs.Lines.{Instruction, code, line_numbers, first_line}
use Rattle.boolean_programs.specs.Lists.{place_in, Each, StandOnce}
use Rattle.boolean_programs.specs.declared.point.Point.{Point}
use Rattle.boolean_machine.specs.Machine.{at_line, Action, Jumps, Sets, Calls, Returns, action}
use Rattle.boolean_machine.specs.Lawful.{IsPointOf, FitsCallee, IsLawfulAction, IsLawful}
use Rattle.boolean_programs.specs.Structure.{IsValueOver, return_slots}
use Rattle.relation_weights.specs.declared.rel_map.Slot.{Slot}
use Rattle.relation_weights.specs.declared.rel_map.Slot.TheVariants.{Caller, Callee}
use Rattle.lowering_laws.specs.Lowering.{Planned, line_rules, jump_rule, step_rule, call_rule, return_rule, callee_at, plan, variables, symbols, symbol_of, symbol, assert_lines, slot_of, first_local, renamed_choice, in_slots, map_slot, Assumes, Assigns, entry_values, symbol_points, failure_at}
use Rattle.lowering_laws.specs.Plans.{IsEffectOver, IsSlotOver, IsWithin}
use Rattle.lowering_laws.proofs.PlaceLemmas.{place_is, place_mapped, place_in_range, length-range_with_len, get_mapped, get_map, get_front, get_joined, get_replicate}
use Rattle.lowering_laws.proofs.NameLemmas.{slot_injective}
use Rattle.lowering_laws.proofs.ShapeLemmas.{alone}
use Rattle.lowering_laws.proofs.PlanLemmas.{planned_by, point_symbol}
use Rattle.lowering_laws.proofs.EffectLemmas.{get_range}
use Rattle.lowering_laws.proofs.SymbolLemmas.{symbol_within}
use Rattle.lowering_laws.proofs.MatchLemmas.{width_within, returns_within, slot_within}

lt_from : (a c : ℕ) → nat_lt a c ≡ true → a < c
lt_from a c h = grind (arith, nat_tests)

lt_true : (a b : ℕ) → a < b → nat_lt a b ≡ true
lt_true a b h = grind (arith, nat_tests)

module _ (f : ℕ → ℕ) (m n : ℕ) (within : (k : ℕ) → k < m → f k < n) where
  over_renamed : (e : Formula ℕ) → IsTrue (is_over m e) → IsTrue (is_over n (renamed f e))
  over_renamed (Constant b) over = refl
  over_renamed (Variable k) over = lt_true (f k) n (within k (lt_from k m over))
  over_renamed (Opposite a) over = over_renamed a over
  over_renamed (Binary t a b) over =
      let outer = and_parts (nat_lt t 16 && is_over m a) (is_over m b) over in
      let inner = and_parts (nat_lt t 16) (is_over m a) outer.0 in
      and_from (nat_lt t 16 && is_over n (renamed f a)) (is_over n (renamed f b)) (and_from (nat_lt t 16) (is_over n (renamed f a)) inner.0 (over_renamed a inner.1)) (over_renamed b outer.1)
  over_renamed (Ternary t a b c) over =
      let outer = and_parts (is_over m a && is_over m b) (is_over m c) over in
      let inner = and_parts (is_over m a) (is_over m b) outer.0 in
      and_from (is_over n (renamed f a) && is_over n (renamed f b)) (is_over n (renamed f c)) (and_from (is_over n (renamed f a)) (is_over n (renamed f b)) (over_renamed a inner.0) (over_renamed b inner.1)) (over_renamed c outer.1)

  value_over_renamed : (v : Choice) → IsValueOver m v → IsValueOver n (renamed_choice f v)
  value_over_renamed Star over = refl
  value_over_renamed (Is e) over = over_renamed e over

range_once : (from n : ℕ) → StandOnce (range_with_len from n)
range_once from n k v e =
    let at = get_range from n k v e in
    ap (place_in (range_with_len from n)) at.0 ∙ place_in_range from n k at.1

module _ (p : Program) (lawful : IsLawful p) (k : ℕ) (i : Instruction) (there : slice_get (code p) k ≡ Some i) (owner : Procedure) (found : slice_get p.procs i.procedure ≡ Some owner) where
  abbrev n : ℕ
  n = variables p

  abbrev names : ℕ
  names = p.globals + width owner

  names_within : (j : ℕ) → j < names → slot_of p j < n
  names_within j h = slot_within p i.procedure owner found j h

  head_small : k < symbols p
  head_small = let small : k < length (code p) = slice_get_within (code p) k i there in omega arith

  symbol_small : (q : ℕ) (point : Point) → IsPointOf p q point → symbol p point < symbols p
  symbol_small q point is = symbol_within p point (symbol p point) (point_symbol p q point is)

  one_right : (g : ℕ) → g < symbols p → Each (λ h. h < symbols p) (g ∷ [])
  one_right g small zero h e = subst (λ x. x < symbols p) (same_Some g h e) small
  one_right g small (suc j) h e = cc

  two_right : (g g' : ℕ) → g < symbols p → g' < symbols p → Each (λ h. h < symbols p) (g ∷ g' ∷ [])
  two_right g g' small small' zero h e = subst (λ x. x < symbols p) (same_Some g h e) small
  two_right g g' small small' (suc zero) h e = subst (λ x. x < symbols p) (same_Some g' h e) small'
  two_right g g' small small' (suc (suc j)) h e = cc

  values_over : (values : List Choice) → Each (IsValueOver names) values → Each (IsValueOver n) (in_slots p values)
  values_over values over j v e =
      let at = get_mapped (renamed_choice (slot_of p)) values j v e in
      subst (IsValueOver n) at.2 (value_over_renamed (slot_of p) names n names_within at.0 (over j at.0 at.1))

  targets_small : (targets : List ℕ) → Each (λ t. t < names) targets → Each (λ t. t < n) (map (slot_of p) targets)
  targets_small targets small j v e =
      let at = get_mapped (slot_of p) targets j v e in
      subst (λ x. x < n) at.2 (names_within at.0 (small j at.0 at.1))

  targets_once : (targets : List ℕ) → StandOnce targets → StandOnce (map (slot_of p) targets)
  targets_once targets once j v e =
      let at = get_mapped (slot_of p) targets j v e in
      ap (place_in (map (slot_of p) targets)) (sym at.2) ∙ place_mapped (slot_of p) (slot_injective p) targets at.0 ∙ once j at.0 at.1

  range_small : (from count : ℕ) → from + count ≤ n → Each (λ t. t < n) (range_with_len from count)
  range_small from count room j v e = let at = get_range from count j v e in let a = at.0 in let b = at.1 in omega arith

  no_map : (right : List ℕ) → (length right ≡ 2 → ⊥) → IsSome {T = ℕ → Slot} None ↔ (length right ≡ 2)
  no_map right h = (λ some. cc, λ two. absurd (h two))

  step_within : (g : ℕ) → g < symbols p → (effect : _) → IsEffectOver n effect → IsWithin p (step_rule k g effect)
  step_within g small effect over = record {
    head = head_small;
    right = one_right g small;
    short = omega arith;
    pushes = no_map (g ∷ []) (λ e. omega arith);
    effect = over;
    slots = tt;
  }

  slots_within : (targets : List ℕ) (callee : ℕ) (arguments : List Choice) → FitsCallee p targets callee arguments → (v : ℕ) → v < n → IsSlotOver n (map_slot p targets v)
  slots_within targets callee arguments fits v h = by_place (place_in (map (slot_of p) targets) v) refl
    where
      few : (j : ℕ) → j < length targets → ((targets ≡ []) ⊎ (length targets ≡ fits.procedure.returns)) → j < return_slots p
      few j small (inl none) = let e : length targets ≡ 0 = ap (λ (xs : List ℕ). length xs) none in absurd (omega arith)
      few j small (inr same) = let r = returns_within p callee fits.procedure fits.found in omega arith

      by_test : (b : Bool) → IsSlotOver n (if b then Callee v else Caller)
      by_test true = h
      by_test false = tt

      by_place : (o : Option ℕ) → place_in (map (slot_of p) targets) v ≡ o → IsSlotOver n (map_slot p targets v)
      by_place None e =
          let at : ℕ → Option ℕ → Slot = λ w o. elim o [ Some j ↦ Callee (p.globals + j) | None ↦ if nat_lt w p.globals then Callee w else Caller ] in
          subst (IsSlotOver n) (ap (at v) (sym e)) (by_test (nat_lt v p.globals))
      by_place (Some j) e =
          let at : ℕ → Option ℕ → Slot = λ w o. elim o [ Some j ↦ Callee (p.globals + j) | None ↦ if nat_lt w p.globals then Callee w else Caller ] in
          let small : j < length (map (slot_of p) targets) = slice_get_within (map (slot_of p) targets) j v (place_is (map (slot_of p) targets) v j e) in
          let long = length-map targets (slot_of p) in
          let some = few j (omega arith) fits.targets_fit in
          let room : p.globals + j < n = omega arith in
          subst (IsSlotOver n) (ap (at v) (sym e)) room

  within_by : (a : Action) → IsLawfulAction p i owner names a → (l : ℕ) (t : Planned) → slice_get (line_rules p k i a) l ≡ Some t → IsWithin p t
  within_by (Jumps ways) acts l t e =
      let way = get_mapped (jump_rule p k) ways l t e in
      let fit = acts l way.0 way.1 in
      subst (IsWithin p) way.2 (step_within (symbol p way.0.1) (symbol_small i.procedure way.0.1 fit.1) (Assumes (renamed (slot_of p) way.0.0)) (over_renamed (slot_of p) names n names_within way.0.0 fit.0))
  within_by (Sets targets values) acts l t e =
      subst (IsWithin p) (alone _ l t e)
      (step_within (symbol p (at_line i.next)) (symbol_small i.procedure (at_line i.next) acts.3) (Assigns (map (slot_of p) targets) (in_slots p values))
      (length-map targets (slot_of p) ∙ acts.0 ∙ sym (length-map values (renamed_choice (slot_of p))), targets_small targets acts.1, values_over values acts.2, targets_once targets acts.4))
  within_by (Calls targets callee arguments) acts l t e =
      let fits = acts.0 in
      let q = fits.procedure in
      let callee_is : callee_at p callee ≡ q = ap (λ o. unwrap_or o (record { params = 0; locals = 0; returns = 0; body = [] })) fits.found in
      let room = width_within p callee q fits.found in
      let long : length (range_with_len (first_local p) (width q)) ≡ length (entry_values p q arguments) =
      let a = length-range_with_len (first_local p) (width q) in
      let b = length-append (in_slots p arguments) (replicate q.locals Star) in
      let c = length-map arguments (renamed_choice (slot_of p)) in
      let d = length-replicate q.locals Star in
      let f = fits.arguments_fit in
      omega arith in
      let rule : IsWithin p (call_rule p k i targets q arguments) = record {
        head = head_small;
        right = two_right (symbol p (at_line (first_line q.body))) (symbol p (at_line i.next)) (symbol_small callee (at_line (first_line q.body)) fits.begins) (symbol_small i.procedure (at_line i.next) acts.3);
        short = omega arith;
        pushes = (λ _. refl, λ _. refl);
        effect = (long, range_small (first_local p) (width q) (omega arith), entries_over q arguments acts.2, range_once (first_local p) (width q));
        slots = slots_within targets callee arguments fits;
      } in
      subst (IsWithin p) (ap (λ x. call_rule p k i targets x arguments) (sym callee_is) ∙ alone _ l t e) rule
    where
      entries_over : (q : Procedure) (arguments : List Choice) → Each (IsValueOver names) arguments → Each (IsValueOver n) (entry_values p q arguments)
      entries_over q arguments over j v e = by_part (get_joined (in_slots p arguments) (replicate q.locals Star) j v e)
        where
          by_part : ((slice_get (in_slots p arguments) j ≡ Some v) ⊎ ((m : ℕ) × (slice_get (replicate q.locals Star) m ≡ Some v))) → IsValueOver n v
          by_part (inl h) = values_over arguments over j v h
          by_part (inr h) = subst (IsValueOver n) (get_replicate q.locals h.0 Star v h.1) refl
  within_by (Returns values) acts l t e =
      let room = returns_within p i.procedure owner found in
      let count = acts.0 in
      let rule : IsWithin p (return_rule p k values) = record {
        head = head_small;
        right = λ j g h. nothing j g h;
        short = omega arith;
        pushes = no_map [] (λ h. omega arith);
        effect = (length-range_with_len p.globals (length values) ∙ sym (length-map values (renamed_choice (slot_of p))), range_small p.globals (length values) (omega arith), values_over values acts.1, range_once p.globals (length values));
        slots = tt;
      } in
      subst (IsWithin p) (alone _ l t e) rule
    where
      nothing : (j g : ℕ) → slice_get [] j ≡ Some g → g < symbols p
      nothing j g h = cc

-- each planned rule
pub plan_within : (p : Program) → IsLawful p → Each (IsWithin p) (plan p)
plan_within p lawful j t e =
    let by = planned_by p 0 (code p) j t e in
    let same : by.number ≡ by.place = let h = by.is_at in omega arith in
    let there : slice_get (code p) by.number ≡ Some by.instruction = ap (slice_get (code p)) same ∙ by.there in
    let line = lawful.lines by.number by.instruction there in
    within_by p lawful by.number by.instruction there line.owner line.found (action p by.instruction) line.acts by.which t by.among

-- ---- the points of symbols

point_by : (p : Program) (line : ℕ) (failed : Bool) (g : ℕ) → symbol_of p (record { line = line; failed = failed }) ≡ Some g → slice_get (symbol_points p) g ≡ Some (record { line = line; failed = failed })
point_by p line false g e =
    get_front (map at_line (line_numbers (code p))) (map failure_at (assert_lines p)) g (at_line line) (get_map at_line (line_numbers (code p)) g line (place_is (line_numbers (code p)) line g e))
point_by p line true g e =
    let place = past (place_in (assert_lines p) line) e in
    let number : slice_get (assert_lines p) place.0 ≡ Some line = place_is (assert_lines p) line place.0 place.1 in
    let long : length (map at_line (line_numbers (code p))) ≡ length (code p) = length-map (line_numbers (code p)) at_line ∙ length-map (code p) (λ (i : Instruction). i.line) in
    let at : g ≡ length (map at_line (line_numbers (code p))) + place.0 = let h = place.2 in omega arith in
    ap (slice_get (symbol_points p)) at ∙ behind (map at_line (line_numbers (code p))) (map failure_at (assert_lines p)) place.0 (failure_at line) (get_map failure_at (assert_lines p) place.0 line number)
  where
    past : (o : Option ℕ) → option_map (λ j. length (code p) + j) o ≡ Some g → (j : ℕ) × (o ≡ Some j) × (g ≡ length (code p) + j)
    past None h = cc
    past (Some j) h = (j, refl, sym (same_Some (length (code p) + j) g h))

    behind : {X : Type 0} (xs ys : List X) (j : ℕ) (x : X) → slice_get ys j ≡ Some x → slice_get (xs ++ ys) (length xs + j) ≡ Some x
    behind [] ys j x h = ap (slice_get ys) (let z : 0 + j ≡ j = omega arith in z) ∙ h
    behind (y ∷ xs) ys j x h = ap (slice_get (y ∷ xs ++ ys)) (let z : suc (length xs) + j ≡ suc (length xs + j) = omega arith in z) ∙ behind xs ys j x h

-- a symbol's point stands at its number
pub point_of_symbol : (p : Program) (point : Point) (g : ℕ) → symbol_of p point ≡ Some g → slice_get (symbol_points p) g ≡ Some point
point_of_symbol p point g e = point_by p point.line point.failed g e
