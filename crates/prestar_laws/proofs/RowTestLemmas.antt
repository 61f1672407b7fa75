-- What a row of the backward table says of its job.
use Rattle.std.proofs.Common.{◌≡◌, ◌⊎◌, inl, inr, ℕ, ◌<◌, ◌≤◌, true, false, List, [], ◌∷◌, refl, sym, ap, ◌∙◌, subst}
use Rattle.std.specs.Prelude.{Option, None, Some, is_none, ◌&&◌, nat_lt, not, slice_get, option_map}
use Rattle.std.proofs.lemmas.Bool.{and_parts, and_from, lt-ltb, le-ltb, ltb-true, ltb-false, not-true}
use Rattle.weighted_automata.specs.declared.place.Place.{Place}
use Rattle.weighted_automata.specs.declared.transitions.Entry.{Entry}
use Rattle.weighted_automata.specs.Places.{same_place}
use Rattle.weighted_automata.proofs.CallerLemmas.{same_place_is, same_place_from, same_place_itself}
use Rattle.pushdown_rules.specs.declared.rule.Rule.{Rule}
use Rattle.pushdown_rules.specs.Pushdown.{Pushdown}
use Rattle.saturation_laws.specs.declared.job.JobKind.{JobKind}
use Rattle.saturation_laws.specs.declared.job.JobKind.TheVariants.{PreStep, PrePushControl, PrePushOther, PostStep, PostPopMiddle, PostPopOther, PostEnter, PostLeave, PostGlue}
use Rattle.saturation_laws.specs.declared.job.Job.{Job}
use Rattle.saturation_laws.specs.Jobs.{Row, row_of, place_of}
use Rattle.prestar_laws.specs.Rows.{is_place, is_step, is_push, second_from, step_row, push_row, rule_row, pre_rows}
use Rattle.prestar_laws.proofs.TableLemmas.{input_at, no_input}
use Rattle.direction_parts.specs.Places.{arrow}

module _ {S W Map : Type 0} (p : Pushdown S W Map) (k : ℕ) (r : Rule S W Map) where
  -- a job of the rule, to a state
  abbrev pub rule_job : JobKind → Option (Entry S W Map) → Option (Entry S W Map) → ℕ → Job S W Map
  rule_job kind first second q = record { kind = kind; rule = Some k; frame = None; first = first; second = second; goal = arrow r.control r.symbol q }

  pub row_test : slice_get p.rules k ≡ Some r → (kind : JobKind) (first second : Option (Entry S W Map)) (q : ℕ) → rule_row p r (row_of (rule_job kind first second q)) ≡ true
      → pre_rows p (row_of (rule_job kind first second q)) ≡ true
  row_test there kind first second q row = ap (λ o. elim o [ None ↦ false | Some u ↦ rule_row p u (row_of (rule_job kind first second q)) ]) there ∙ row

  pub step_test : (g : ℕ) → r.right ≡ g ∷ [] → (q : ℕ) (t : Entry S W Map) → t.place ≡ arrow r.to g q → step_row p r (row_of (rule_job PreStep (Some t) None q)) ≡ true
  step_test g right q t at =
      let row = row_of (rule_job PreStep (Some t) None q) in
      let goal = arrow r.control r.symbol q in
      let nothing : Option Place = None in
      let test : is_step p r g row ≡ true =
      and_from (is_place (Some t.place) (arrow r.to g q) && is_none nothing) (same_place goal goal)
      (and_from (is_place (Some t.place) (arrow r.to g q)) (is_none nothing) (same_place_from t.place (arrow r.to g q) at) refl) (same_place_itself goal) in
      ap (λ w. elim w [ [] ↦ false | g ∷ gs ↦ elim gs [ [] ↦ is_step p r g row | h ∷ hs ↦ false ] ]) right ∙ test

  module _ (g₁ g₂ : ℕ) (right : r.right ≡ g₁ ∷ g₂ ∷ []) (q₁ q : ℕ) (t u : Entry S W Map) (at : t.place ≡ arrow r.to g₁ q₁) (at' : u.place ≡ arrow q₁ g₂ q) where
    from_there : u.place.from ≡ q₁
    from_there = ap (λ (x : Place). x.from) at'

    pub push_test : (kind : JobKind) → push_row p r (row_of (rule_job kind (Some t) (Some u) q)) ≡ true
    push_test kind =
        let row = row_of (rule_job kind (Some t) (Some u) q) in
        let goal = arrow r.control r.symbol q in
        let y₁ = arrow r.to g₁ u.place.from in
        let y₂ = arrow u.place.from g₂ q in
        let first : t.place ≡ y₁ = at ∙ ap (arrow r.to g₁) (sym from_there) in
        let second : u.place ≡ y₂ = at' ∙ ap (λ n. arrow n g₂ q) (sym from_there) in
        let test : is_push p r g₁ g₂ u.place.from row ≡ true =
        and_from (is_place (Some t.place) y₁ && is_place (Some u.place) y₂) (same_place goal goal)
        (and_from (is_place (Some t.place) y₁) (is_place (Some u.place) y₂) (same_place_from t.place y₁ first) (same_place_from u.place y₂ second)) (same_place_itself goal) in
        ap (λ w. elim w [ [] ↦ false | g ∷ gs ↦ elim gs [ [] ↦ false | h ∷ hs ↦ elim hs [ [] ↦ is_push p r g h u.place.from row | i ∷ is ↦ false ] ] ]) right ∙ test

    pub call_test : q₁ < p.controls → rule_row p r (row_of (rule_job PrePushControl (Some t) (Some u) q)) ≡ true
    call_test low =
        let P : ℕ → Type 0 = λ n. n < p.controls in
        and_from (nat_lt u.place.from p.controls) (push_row p r (row_of (rule_job PrePushControl (Some t) (Some u) q)))
        (lt-ltb u.place.from p.controls (subst P (sym from_there) low)) (push_test PrePushControl)

    pub stay_test : p.controls ≤ q₁ → rule_row p r (row_of (rule_job PrePushOther (Some t) (Some u) q)) ≡ true
    stay_test high =
        let P : ℕ → Type 0 = λ n. p.controls ≤ n in
        and_from (not (nat_lt u.place.from p.controls)) (push_row p r (row_of (rule_job PrePushOther (Some t) (Some u) q)))
        (ap not (le-ltb u.place.from p.controls (subst P (sym from_there) high))) (push_test PrePushOther)

-- A job of a step rule.
pub record IsStepJob {S W Map : Type 0} (p : Pushdown S W Map) (j : Job S W Map) : Type 0 where
  pub number : ℕ
  pub by : Rule S W Map
  pub there : slice_get p.rules number ≡ Some by
  pub top : ℕ
  pub right : by.right ≡ top ∷ []
  pub input : Entry S W Map
  pub place : input.place ≡ arrow by.to top j.goal.to
  pub is : j ≡ rule_job p number by PreStep (Some input) None j.goal.to

-- A job of a push rule, whose callee comes to a state.
pub record IsPushJob {S W Map : Type 0} (p : Pushdown S W Map) (j : Job S W Map) : Type 0 where
  pub number : ℕ
  pub by : Rule S W Map
  pub there : slice_get p.rules number ≡ Some by
  pub top : ℕ
  pub below : ℕ
  pub right : by.right ≡ top ∷ below ∷ []
  pub mid : ℕ
  pub callee : Entry S W Map
  pub after : Entry S W Map
  pub place : callee.place ≡ arrow by.to top mid
  pub next : after.place ≡ arrow mid below j.goal.to
  pub sort : JobKind
  pub sorted : ((sort ≡ PrePushControl) × (mid < p.controls)) ⊎ ((sort ≡ PrePushOther) × (p.controls ≤ mid))
  pub is : j ≡ rule_job p number by sort (Some callee) (Some after) j.goal.to

module _ {S W Map : Type 0} (p : Pushdown S W Map) where
  abbrev full : JobKind → Option ℕ → Option ℕ → Option (Entry S W Map) → Option (Entry S W Map) → Place → Job S W Map
  full kind rule frame first second goal = record { kind = kind; rule = rule; frame = frame; first = first; second = second; goal = goal }

  module _ (k : ℕ) (r : Rule S W Map) (there : slice_get p.rules k ≡ Some r) (first second : Option (Entry S W Map)) (goal : Place) where
    abbrev row : JobKind → Row
    row kind = row_of (full kind (Some k) None first second goal)

    made : (kind : JobKind) (i i' : Option (Entry S W Map)) → first ≡ i → second ≡ i' → goal ≡ arrow r.control r.symbol goal.to
        → full kind (Some k) None first second goal ≡ rule_job p k r kind i i' goal.to
    made kind i i' e e' at = ap (λ x. full kind (Some k) None x second goal) e ∙ ap (λ x. full kind (Some k) None i x goal) e' ∙ ap (full kind (Some k) None i i') at

    step_is : (word : List ℕ) → r.right ≡ word → (elim word [ [] ↦ false | g ∷ gs ↦ elim gs [ [] ↦ is_step p r g (row PreStep) | h ∷ hs ↦ false ] ]) ≡ true → IsStepJob p (full PreStep (Some k) None first second goal)
    step_is [] e h = cc
    step_is (g ∷ i ∷ word) e h = cc
    step_is (g ∷ []) e h =
        let x = arrow r.to g goal.to in
        let parts = and_parts (is_place (option_map place_of first) x && is_none (option_map place_of second)) (same_place goal (arrow r.control r.symbol goal.to)) h in
        let inputs = and_parts (is_place (option_map place_of first) x) (is_none (option_map place_of second)) parts.0 in
        let t = input_at first x inputs.0 in
        record {
          number = k;
          by = r;
          there = there;
          top = g;
          right = e;
          input = t.0;
          place = t.2;
          is = made PreStep (Some t.0) None t.1 (no_input second inputs.1) (same_place_is goal _ parts.1);
        }

    abbrev mid_of : ℕ
    mid_of = second_from p (row PrePushControl)

    push_is : (kind : JobKind) → ((kind ≡ PrePushControl) × (mid_of < p.controls)) ⊎ ((kind ≡ PrePushOther) × (p.controls ≤ mid_of)) → (word : List ℕ) → r.right ≡ word
        → (elim word [ [] ↦ false | g ∷ gs ↦ elim gs [ [] ↦ false | h ∷ hs ↦ elim hs [ [] ↦ is_push p r g h mid_of (row kind) | i ∷ is ↦ false ] ] ]) ≡ true
        → IsPushJob p (full kind (Some k) None first second goal)
    push_is kind sorted [] e h = cc
    push_is kind sorted (g ∷ []) e h = cc
    push_is kind sorted (g ∷ i ∷ j ∷ word) e h = cc
    push_is kind sorted (g ∷ i ∷ []) e test =
        let x = arrow r.to g mid_of in
        let y = arrow mid_of i goal.to in
        let parts = and_parts (is_place (option_map place_of first) x && is_place (option_map place_of second) y) (same_place goal (arrow r.control r.symbol goal.to)) test in
        let inputs = and_parts (is_place (option_map place_of first) x) (is_place (option_map place_of second) y) parts.0 in
        let t = input_at first x inputs.0 in
        let u = input_at second y inputs.1 in
        record {
          number = k;
          by = r;
          there = there;
          top = g;
          below = i;
          right = e;
          mid = mid_of;
          callee = t.0;
          after = u.0;
          place = t.2;
          next = u.2;
          sort = kind;
          sorted = sorted;
          is = made kind (Some t.0) (Some u.0) t.1 u.1 (same_place_is goal _ parts.1);
        }

    by_kind : (kind : JobKind) → rule_row p r (row kind) ≡ true → IsStepJob p (full kind (Some k) None first second goal) ⊎ IsPushJob p (full kind (Some k) None first second goal)
    by_kind PreStep test = inl (step_is r.right refl test)
    by_kind PrePushControl test =
        let parts = and_parts (nat_lt mid_of p.controls) (push_row p r (row PrePushControl)) test in
        inr (push_is PrePushControl (inl (refl, ltb-true mid_of p.controls parts.0)) r.right refl parts.1)
    by_kind PrePushOther test =
        let parts = and_parts (not (nat_lt mid_of p.controls)) (push_row p r (row PrePushOther)) test in
        inr (push_is PrePushOther (inr (refl, ltb-false mid_of p.controls (not-true (nat_lt mid_of p.controls) parts.0))) r.right refl parts.1)
    by_kind PostStep test = cc
    by_kind PostPopMiddle test = cc
    by_kind PostPopOther test = cc
    by_kind PostEnter test = cc
    by_kind PostLeave test = cc
    by_kind PostGlue test = cc

  at_rule : (kind : JobKind) (k : ℕ) (first second : Option (Entry S W Map)) (goal : Place) (o : Option (Rule S W Map)) → slice_get p.rules k ≡ o
      → (elim o [ None ↦ false | Some r ↦ rule_row p r (row_of (full kind (Some k) None first second goal)) ]) ≡ true
      → IsStepJob p (full kind (Some k) None first second goal) ⊎ IsPushJob p (full kind (Some k) None first second goal)
  at_rule kind k first second goal None e test = cc
  at_rule kind k first second goal (Some r) e test = by_kind k r e first second goal kind test

  any_frame : (kind : JobKind) (rule frame : Option ℕ) (first second : Option (Entry S W Map)) (goal : Place) → pre_rows p (row_of (full kind rule frame first second goal)) ≡ true
      → IsStepJob p (full kind rule frame first second goal) ⊎ IsPushJob p (full kind rule frame first second goal)
  any_frame kind rule (Some f) first second goal test = cc
  any_frame kind None None first second goal test = cc
  any_frame kind (Some k) None first second goal test = at_rule kind k first second goal (slice_get p.rules k) refl test

  -- a row is that of a step rule or of a push rule
  pub row_says : (j : Job S W Map) → pre_rows p (row_of j) ≡ true → IsStepJob p j ⊎ IsPushJob p j
  row_says j test = any_frame j.kind j.rule j.frame j.first j.second j.goal test
