-- The backward table meets the law on runs.
use Rattle.std.proofs.Common.{◌≡◌, inl, inr, ℕ, ◌≤◌, true, false, List, [], ◌∷◌, refl, sym, ap, ◌∙◌, subst}
use Rattle.std.specs.Prelude.{Option, None, Some, IsTrue, is_none, ◌&&◌, nat_lt, not, slice_get, option_map, unwrap_or}
use Rattle.std.proofs.lemmas.Bool.{cases_lt, and_parts, ltb-true, ltb-false, not-true}
use Rattle.std.proofs.lemmas.List.{append-nil}
use Rattle.semiring_laws.proofs.CallerLemmas.{combine_zero}
use Rattle.pushdown_rules.specs.Configuration.{Configuration}
use Rattle.pushdown_rules.specs.RunValue.{Machine, starting, product, run_value}
use Rattle.pushdown_rules.proofs.CallerLemmas.{rule_at, fires, by_word, rules_cons}
use Rattle.wpds_base.specs.Lists.{IsIn}
use Rattle.semiring_laws.specs.Semiring.{Operations, IsSemiring}
use Rattle.weighted_automata.specs.declared.place.Place.{Place}
use Rattle.weighted_automata.specs.declared.transitions.Entry.{Entry}
use Rattle.weighted_automata.specs.Places.{same_place}
use Rattle.weighted_automata.proofs.CallerLemmas.{same_place_is}
use Rattle.witness_graph.specs.declared.node.Side.TheVariants.{Pre}
use Rattle.witness_graph.specs.Runs.{parts_runs, rule_runs}
use Rattle.pushdown_rules.specs.declared.rule.Rule.{Rule}
use Rattle.pushdown_rules.specs.Pushdown.{Pushdown, IsSystem}
use Rattle.pushdown_rules.specs.Values.{value_of}
use Rattle.saturation_laws.specs.declared.job.JobKind.{JobKind}
use Rattle.saturation_laws.specs.declared.job.JobKind.TheVariants.{PreStep, PrePushControl, PrePushOther, PostStep, PostPopMiddle, PostPopOther, PostEnter, PostLeave, PostGlue}
use Rattle.saturation_laws.specs.declared.job.Job.{Job}
use Rattle.saturation_laws.specs.Jobs.{Row, row_of, place_of, named_rule, named_first}
use Rattle.saturation_laws.specs.Directions.{AreRuns, AreInputRuns}
use Rattle.prestar_laws.specs.Reading.{PreRun}
use Rattle.saturation_laws.specs.States.{weight_of}
use Rattle.prestar_laws.specs.Rows.{is_place, is_step, is_push, second_from, push_row, rule_row, pre_rows, rule_candidate, at_rule as at_rule_of, pre_candidate}
use Rattle.prestar_laws.proofs.RowLemmas.{step_sound, call_sound, open_sound}
use Rattle.direction_parts.specs.Places.{LeadsToItems, arrow}

module _ {S W Map : Type 0} where
  -- an input at a place
  pub input_at : (i : Option (Entry S W Map)) (x : Place) → is_place (option_map place_of i) x ≡ true → (t : Entry S W Map) × (i ≡ Some t) × (t.place ≡ x)
  input_at None x h = cc
  input_at (Some t) x h = (t, refl, same_place_is t.place x h)

  pub no_input : (i : Option (Entry S W Map)) → is_none (option_map place_of i) ≡ true → i ≡ None
  no_input None h = refl
  no_input (Some t) h = cc

module _ {S W Map : Type 0} {operations : S → Operations W Map} {p : Pushdown S W Map} (valid : IsSystem operations p) (laws : IsSemiring (operations p.semiring))
    (edges : List Place) (items : LeadsToItems p.controls edges) where
  abbrev s : Operations W Map
  s = operations p.semiring

  abbrev value : List ℕ → W
  value = value_of s p

  abbrev runs : Place → List ℕ → Type 0
  runs = PreRun p edges

  -- the runs of an input, at its place
  at_place : (i : Option (Entry S W Map)) (t : Entry S W Map) (x : Place) (xs : List (List ℕ)) → i ≡ Some t → t.place ≡ x → AreInputRuns s value runs i xs
      → AreRuns s value runs x (weight_of s i) xs
  at_place i t x xs is at all =
      let P : Option (Entry S W Map) → Type 0 = λ j. AreInputRuns s value runs j xs in
      let Q : Place → Type 0 = λ y. AreRuns s value runs y t.weight xs in
      let R : W → Type 0 = λ w. AreRuns s value runs x w xs in
      subst R (sym (ap (weight_of s) is)) (subst Q at (subst P is all))

  module _ (k : ℕ) (r : Rule S W Map) (there : slice_get p.rules k ≡ Some r) (goal : Place) (first second : Option (Entry S W Map)) (xs ys : List (List ℕ)) where
    abbrev row : JobKind → Row
    row kind = record { kind = kind; rule = Some k; frame = None; first = option_map place_of first; second = option_map place_of second; goal = goal }

    step_is : (word : List ℕ) → r.right ≡ word → (elim word [ [] ↦ false | g ∷ gs ↦ elim gs [ [] ↦ is_step p r g (row PreStep) | h ∷ hs ↦ false ] ]) ≡ true
        → AreInputRuns s value runs first xs → AreInputRuns s value runs second ys
        → AreRuns s value runs goal (s.extend r.weight (weight_of s first)) (parts_runs Pre (rule_runs (Some k)) xs ys)
    step_is [] e h is more = cc
    step_is (g ∷ i ∷ word) e h is more = cc
    step_is (g ∷ []) e h is more =
        let x = arrow r.to g goal.to in
        let parts = and_parts (is_place (option_map place_of first) x && is_none (option_map place_of second)) (same_place goal (arrow r.control r.symbol goal.to)) h in
        let inputs = and_parts (is_place (option_map place_of first) x) (is_none (option_map place_of second)) parts.0 in
        let t = input_at first x inputs.0 in
        let none = no_input second inputs.1 in
        let at : goal ≡ arrow r.control r.symbol goal.to = same_place_is goal _ parts.1 in
        let P : Option (Entry S W Map) → Type 0 = λ j. AreInputRuns s value runs j ys in
        let only : ys ≡ [] ∷ [] = subst P none more in
        let Q : List (List ℕ) → Type 0 = λ zs. AreRuns s value runs goal (s.extend r.weight (weight_of s first)) (parts_runs Pre (rule_runs (Some k)) xs zs) in
        let R : Place → Type 0 = λ y. AreRuns s value runs y (s.extend r.weight (weight_of s first)) (parts_runs Pre (rule_runs (Some k)) xs ([] ∷ [])) in
        subst Q (sym only) (subst R (sym at) (step_sound valid laws edges k r there g e goal.to (weight_of s first) xs (at_place first t.0 x xs t.1 t.2 is)))

    abbrev from : JobKind → ℕ
    from kind = second_from p (row kind)

    -- the parts of a push row
    push_parts : (kind : JobKind) (g h : ℕ) → is_push p r g h (from kind) (row kind) ≡ true → AreInputRuns s value runs first xs → AreInputRuns s value runs second ys
        → AreRuns s value runs (arrow r.to g (from kind)) (weight_of s first) xs × AreRuns s value runs (arrow (from kind) h goal.to) (weight_of s second) ys
        × (goal ≡ arrow r.control r.symbol goal.to)
    push_parts kind g h test is more =
        let x = arrow r.to g (from kind) in
        let y = arrow (from kind) h goal.to in
        let parts = and_parts (is_place (option_map place_of first) x && is_place (option_map place_of second) y) (same_place goal (arrow r.control r.symbol goal.to)) test in
        let inputs = and_parts (is_place (option_map place_of first) x) (is_place (option_map place_of second) y) parts.0 in
        let t = input_at first x inputs.0 in
        let u = input_at second y inputs.1 in
        (at_place first t.0 x xs t.1 t.2 is, at_place second u.0 y ys u.1 u.2 more, same_place_is goal _ parts.1)

    call_is : (word : List ℕ) → r.right ≡ word → nat_lt (from PrePushControl) p.controls ≡ true
        → (elim word [ [] ↦ false | g ∷ gs ↦ elim gs [ [] ↦ false | h ∷ hs ↦ elim hs [ [] ↦ is_push p r g h (from PrePushControl) (row PrePushControl) | i ∷ is ↦ false ] ] ]) ≡ true
        → AreInputRuns s value runs first xs → AreInputRuns s value runs second ys
        → AreRuns s value runs goal (s.extend (s.after (unwrap_or r.map s.plain) (s.extend r.weight (weight_of s first))) (weight_of s second)) (parts_runs Pre (rule_runs (Some k)) xs ys)
    call_is [] e low test is more = cc
    call_is (g ∷ []) e low test is more = cc
    call_is (g ∷ h ∷ i ∷ word) e low test is more = cc
    call_is (g ∷ h ∷ []) e low test is more =
        let all = push_parts PrePushControl g h test is more in
        let w = s.extend (s.after (unwrap_or r.map s.plain) (s.extend r.weight (weight_of s first))) (weight_of s second) in
        let R : Place → Type 0 = λ y. AreRuns s value runs y w (parts_runs Pre (rule_runs (Some k)) xs ys) in
        subst R (sym all.2) (call_sound valid laws edges k r there g h e (from PrePushControl) goal.to items (ltb-true (from PrePushControl) p.controls low) (weight_of s first) (weight_of s second) xs ys all.0 all.1)

    open_is : (word : List ℕ) → r.right ≡ word → not (nat_lt (from PrePushOther) p.controls) ≡ true
        → (elim word [ [] ↦ false | g ∷ gs ↦ elim gs [ [] ↦ false | h ∷ hs ↦ elim hs [ [] ↦ is_push p r g h (from PrePushOther) (row PrePushOther) | i ∷ is ↦ false ] ] ]) ≡ true
        → AreInputRuns s value runs first xs → AreInputRuns s value runs second ys
        → AreRuns s value runs goal (s.extend (s.extend r.weight (weight_of s first)) (weight_of s second)) (parts_runs Pre (rule_runs (Some k)) xs ys)
    open_is [] e high test is more = cc
    open_is (g ∷ []) e high test is more = cc
    open_is (g ∷ h ∷ i ∷ word) e high test is more = cc
    open_is (g ∷ h ∷ []) e high test is more =
        let all = push_parts PrePushOther g h test is more in
        let w = s.extend (s.extend r.weight (weight_of s first)) (weight_of s second) in
        let R : Place → Type 0 = λ y. AreRuns s value runs y w (parts_runs Pre (rule_runs (Some k)) xs ys) in
        let above : p.controls ≤ from PrePushOther = ltb-false (from PrePushOther) p.controls (not-true (nat_lt (from PrePushOther) p.controls) high) in
        subst R (sym all.2) (open_sound valid laws edges k r there g h e (from PrePushOther) goal.to above (weight_of s first) (weight_of s second) xs ys all.0 all.1)

    abbrev job : JobKind → Job S W Map
    job kind = record { kind = kind; rule = Some k; frame = None; first = first; second = second; goal = goal }

    by_kind : (kind : JobKind) → rule_row p r (row kind) ≡ true → AreInputRuns s value runs (named_first (job kind)) xs → AreInputRuns s value runs second ys
        → AreRuns s value runs goal (rule_candidate s r (job kind)) (parts_runs Pre (rule_runs (named_rule (job kind))) xs ys)
    by_kind PreStep test is more = step_is r.right refl test is more
    by_kind PrePushControl test is more = let parts = and_parts (nat_lt (from PrePushControl) p.controls) (push_row p r (row PrePushControl)) test in call_is r.right refl parts.0 parts.1 is more
    by_kind PrePushOther test is more = let parts = and_parts (not (nat_lt (from PrePushOther) p.controls)) (push_row p r (row PrePushOther)) test in open_is r.right refl parts.0 parts.1 is more
    by_kind PostStep test is more = cc
    by_kind PostPopMiddle test is more = cc
    by_kind PostPopOther test is more = cc
    by_kind PostEnter test is more = cc
    by_kind PostLeave test is more = cc
    by_kind PostGlue test is more = cc

  abbrev full : JobKind → Option ℕ → Option ℕ → Option (Entry S W Map) → Option (Entry S W Map) → Place → Job S W Map
  full kind rule frame first second goal = record { kind = kind; rule = rule; frame = frame; first = first; second = second; goal = goal }

  abbrev Sound : Job S W Map → List (List ℕ) → List (List ℕ) → Type 0
  Sound j xs ys = AreInputRuns s value runs (named_first j) xs → AreInputRuns s value runs j.second ys
      → AreRuns s value runs j.goal (pre_candidate s p j) (parts_runs Pre (rule_runs (named_rule j)) xs ys)

  at_rule : (kind : JobKind) (k : ℕ) (first second : Option (Entry S W Map)) (goal : Place) (xs ys : List (List ℕ)) (o : Option (Rule S W Map)) → slice_get p.rules k ≡ o
      → (elim o [ None ↦ false | Some r ↦ rule_row p r (row_of (full kind (Some k) None first second goal)) ]) ≡ true → Sound (full kind (Some k) None first second goal) xs ys
  at_rule kind k first second goal xs ys None e test is more = cc
  at_rule kind k first second goal xs ys (Some r) e test is more =
      let j = full kind (Some k) None first second goal in
      let P : W → Type 0 = λ w. AreRuns s value runs goal w (parts_runs Pre (rule_runs (named_rule j)) xs ys) in
      subst P (sym (ap (λ o. at_rule_of s o j) e)) (by_kind k r e goal first second xs ys kind test is more)

  any_frame : (kind : JobKind) (rule frame : Option ℕ) (first second : Option (Entry S W Map)) (goal : Place) (xs ys : List (List ℕ))
      → pre_rows p (row_of (full kind rule frame first second goal)) ≡ true → Sound (full kind rule frame first second goal) xs ys
  any_frame kind rule (Some f) first second goal xs ys test is more = cc
  any_frame kind None None first second goal xs ys test is more = cc
  any_frame kind (Some k) None first second goal xs ys test is more = at_rule kind k first second goal xs ys (slice_get p.rules k) refl test is more

  -- the law on runs, for the backward table
  pub pre_sound : (j : Job S W Map) (xs ys : List (List ℕ)) → IsTrue (pre_rows p (row_of j)) → AreInputRuns s value runs (named_first j) xs → AreInputRuns s value runs j.second ys
      → AreRuns s value runs j.goal (pre_candidate s p j) (parts_runs Pre (rule_runs (named_rule j)) xs ys)
  pre_sound j xs ys test is more = any_frame j.kind j.rule j.frame j.first j.second j.goal xs ys test is more

  -- the empty run is a run of an opening edge that reads a symbol
  pub pre_opens : (c g q : ℕ) → IsIn (arrow c g q) edges → runs (arrow c g q) []
  pre_opens c g q edge = elim (cases_lt c p.controls) [
    | inl control ↦ inl (control, (record { control = c; stack = g ∷ [] }, refl, (q, edge, refl)))
    | inr item ↦ inr (item, edge, refl)
  ]

  -- a pop rule alone is a run of the place that it opens
  pub pre_pops : (k : ℕ) (r : Rule S W Map) → slice_get p.rules k ≡ Some r → r.right ≡ [] → AreRuns s value runs (arrow r.control r.symbol r.to) r.weight ((k ∷ []) ∷ [])
  pre_pops k r there none =
      let rule = rule_at valid k r there in
      let at : List ℕ → Configuration = λ w. record { control = r.to; stack = w } in
      let alone : value (k ∷ []) ≡ r.weight =
      ap (run_value s) (rules_cons s p k r [] there) ∙ ap (λ (m : Machine W Map). product s m.frames m.accumulator) (by_word s r [] (starting s) none) ∙ laws.extend-one_left r.weight rule.fits.weight in
      record {
        each = (inl (rule.control, (at [], (at [], fires p k r there [] ∙ ap (λ w. Some (at w)) (append-nil r.right ∙ none), refl), refl)), tt);
        weight = sym (ap (λ w. s.combine w s.zero) alone ∙ combine_zero laws r.weight rule.fits.weight);
      }
