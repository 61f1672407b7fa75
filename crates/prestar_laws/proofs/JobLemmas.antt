-- The jobs of a transition are the consequences that it is an input of.
use Rattle.std.proofs.Common.{◌≡◌, ◌⊎◌, inl, inr, ℕ, ◌<◌, ◌≤◌, true, List, [], ◌∷◌, ◌++◌, refl, sym, ap, ap₂, ◌∙◌, subst}
use Rattle.std.specs.Prelude.{Option, None, Some, ◌&&◌, nat_lt, not, slice_get}
use Rattle.std.specs.List.{flat_map}
use Rattle.std.proofs.lemmas.Bool.{and_parts, and_from, or_left, or_right, cond_both, cond-true, lt-ltb, le-ltb, ltb-true, ltb-false, not-true}
use Rattle.std.proofs.lemmas.Option.{same_Some}
use Rattle.semiring_laws.specs.Semiring.{Operations}
use Rattle.weighted_automata.specs.declared.place.Place.{Place}
use Rattle.weighted_automata.specs.declared.place.Label.TheVariants.{Symbol}
use Rattle.weighted_automata.specs.declared.transitions.Entry.{Entry}
use Rattle.weighted_automata.specs.Places.{same_label, same_place}
use Rattle.weighted_automata.specs.Entries.{is_from, Present, HasDistinctPlaces}
use Rattle.weighted_automata.proofs.CallerLemmas.{cases_place, other_place}
use Rattle.pushdown_rules.specs.declared.rule.Rule.{Rule}
use Rattle.pushdown_rules.specs.Pushdown.{Pushdown}
use Rattle.saturation_laws.specs.declared.job.JobKind.{JobKind}
use Rattle.saturation_laws.specs.declared.job.JobKind.TheVariants.{PreStep, PrePushControl, PrePushOther}
use Rattle.saturation_laws.specs.declared.job.Job.{Job}
use Rattle.saturation_laws.specs.Jobs.{HasInput}
use Rattle.wpds_base.specs.Lists.{IsIn}
use Rattle.saturation_laws.specs.Directions.{IsConsequence}
use Rattle.saturation_laws.proofs.CallerLemmas.{in_left, in_append, in_right, entry_in, in_flat_map, from_flat_map, in_present, present_once}
use Rattle.prestar_laws.specs.Jobs.{step_job, push_job, step_of, goes_on, are_inputs, pair_jobs, may_be_input, pairs_of, push_of, pre_jobs, pre_tables}
use Rattle.prestar_laws.proofs.RowTestLemmas.{rule_job, row_test, step_test, call_test, stay_test, IsStepJob, IsPushJob, row_says}
use Rattle.direction_parts.specs.Places.{arrow}
use Rattle.direction_parts.specs.Passes.{only_if, by_rule, one_symbol, two_symbols}
use Rattle.direction_parts.proofs.CallerLemmas.{label_from, from_is, is_from_there, in_only, from_only, one_symbol_is, two_symbols_are, in_rules, from_rules}

module _ {S W Map : Type 0} (s : Operations W Map) (p : Pushdown S W Map) (ts : List (Entry S W Map)) (t : Entry S W Map) (distinct : HasDistinctPlaces ts) (here : Present ts t) where
  -- a consequence of which the transition is an input
  abbrev IsDrawn : Job S W Map → Type 0
  IsDrawn j = IsConsequence (pre_tables s p) ts j × HasInput j t

  abbrev Is : Entry S W Map → Type 0
  Is u = Present ts u

  module _ (k : ℕ) (r : Rule S W Map) (there : slice_get p.rules k ≡ Some r) where
    step_drawn : (g : ℕ) → r.right ≡ g ∷ [] → is_from r.to (Symbol g) t ≡ true → IsDrawn (step_job k r t)
    step_drawn g right from = (
      record {
        row = row_test p k r there PreStep (Some t) None t.place.to (step_test p k r g right t.place.to t (from_is r.to g t from));
        inputs = λ u has. elim has [ inl e ↦ let P : Entry S W Map → Type 0 = Is in subst P (same_Some t u e) here | inr e ↦ cc ];
      },
      inl refl,
    )

    two_there : (kind : JobKind) (a b u : Entry S W Map) → Is a → Is b → HasInput (push_job kind k r a b) u → Is u
    two_there kind a b u ia ib has = let P : Entry S W Map → Type 0 = Is in elim has [ inl e ↦ subst P (same_Some a u e) ia | inr e ↦ subst P (same_Some b u e) ib ]

    push_row_is : (kind : JobKind) → (kind ≡ PrePushControl) ⊎ (kind ≡ PrePushOther) → (g h : ℕ) → r.right ≡ g ∷ h ∷ [] → (a b : Entry S W Map) → are_inputs p.controls kind r g h a b ≡ true
        → Rattle.prestar_laws.specs.Rows.pre_rows p (Rattle.saturation_laws.specs.Jobs.row_of (push_job kind k r a b)) ≡ true
    push_row_is kind sort g h right a b test =
        let parts = and_parts (is_from r.to (Symbol g) a) (is_from a.place.to (Symbol h) b && goes_on p.controls kind a.place.to) test in
        let more = and_parts (is_from a.place.to (Symbol h) b) (goes_on p.controls kind a.place.to) parts.1 in
        let at = from_is r.to g a parts.0 in
        let at' = from_is a.place.to h b more.0 in
        let P : JobKind → Type 0 = λ z. goes_on p.controls z a.place.to ≡ true in
        let Q : JobKind → Type 0 = λ z. Rattle.prestar_laws.specs.Rows.pre_rows p (Rattle.saturation_laws.specs.Jobs.row_of (push_job z k r a b)) ≡ true in
        elim sort [
          | inl e ↦ subst Q (sym e) (row_test p k r there PrePushControl (Some a) (Some b) b.place.to
              (call_test p k r g h right a.place.to b.place.to a b at at' (ltb-true a.place.to p.controls (subst P e more.1))))
          | inr e ↦ subst Q (sym e) (row_test p k r there PrePushOther (Some a) (Some b) b.place.to
              (stay_test p k r g h right a.place.to b.place.to a b at at' (ltb-false a.place.to p.controls (not-true (nat_lt a.place.to p.controls) (subst P e more.1)))))
        ]

    push_drawn : (kind : JobKind) → (kind ≡ PrePushControl) ⊎ (kind ≡ PrePushOther) → (g h : ℕ) → r.right ≡ g ∷ h ∷ [] → (a b : Entry S W Map) → Is a → Is b → (a ≡ t) ⊎ (b ≡ t)
        → are_inputs p.controls kind r g h a b ≡ true → IsDrawn (push_job kind k r a b)
    push_drawn kind sort g h right a b ia ib one test = (
      record { row = push_row_is kind sort g h right a b test; inputs = λ u has. two_there kind a b u ia ib has },
      elim one [ inl e ↦ inl (ap Some e) | inr e ↦ inr (ap Some e) ],
    )

    abbrev D : Job S W Map → Type 0
    D = IsDrawn

    from_step : (j : Job S W Map) (o : Option ℕ) → one_symbol r.right ≡ o → IsIn j (elim o [ None ↦ [] | Some g ↦ only_if (is_from r.to (Symbol g) t) (step_job k r t) ]) → IsDrawn j
    from_step j None e h = absurd h
    from_step j (Some g) e h =
        let is = from_only (is_from r.to (Symbol g) t) (step_job k r t) j h in
        let P : Job S W Map → Type 0 = D in
        subst P is.1 (step_drawn g (one_symbol_is r.right g e) is.0)

    from_pair : (kind : JobKind) → (kind ≡ PrePushControl) ⊎ (kind ≡ PrePushOther) → (g i : ℕ) → r.right ≡ g ∷ i ∷ [] → (u : Entry S W Map) → IsIn u ts → (j : Job S W Map)
        → IsIn j (pair_jobs p.controls kind k r g i t u) → IsDrawn j
    from_pair kind sort g i right u listed j h =
        let P : Job S W Map → Type 0 = D in
        let one = are_inputs p.controls kind r g i t u in
        let other = not (same_place u.place t.place) && are_inputs p.controls kind r g i u t in
        let iu = in_present ts u distinct listed in
        elim (in_append j (only_if one (push_job kind k r t u)) (only_if other (push_job kind k r u t)) h) [
          | inl first ↦
              let is = from_only one (push_job kind k r t u) j first in
              subst P is.1 (push_drawn kind sort g i right t u here iu (inl refl) is.0)
          | inr second ↦
              let is = from_only other (push_job kind k r u t) j second in
              let parts = and_parts (not (same_place u.place t.place)) (are_inputs p.controls kind r g i u t) is.0 in
              subst P is.1 (push_drawn kind sort g i right u t iu here (inr refl) parts.1)
        ]

    from_push : (kind : JobKind) → (kind ≡ PrePushControl) ⊎ (kind ≡ PrePushOther) → (j : Job S W Map) (o : Option (ℕ × ℕ)) → two_symbols r.right ≡ o
        → IsIn j (elim o [ None ↦ [] | Some w ↦ pairs_of p.controls kind ts t k r w.0 w.1 ]) → IsDrawn j
    from_push kind sort j None e h = absurd h
    from_push kind sort j (Some w) e h =
        let P : List (Job S W Map) → Type 0 = λ js. IsIn j js → IsDrawn j in
        cond_both (may_be_input r w.0 w.1 t) (flat_map (pair_jobs p.controls kind k r w.0 w.1 t) ts) [] P
        (λ e' l. let one = from_flat_map (pair_jobs p.controls kind k r w.0 w.1 t) j ts l in from_pair kind sort w.0 w.1 (two_symbols_are r.right w e) one.before one.there j one.is)
        (λ e' l. absurd l) h

  -- what is listed is a consequence that the transition is an input of
  pub jobs_are : (j : Job S W Map) → IsIn j (pre_jobs p ts t) → IsDrawn j
  jobs_are j listed =
      let steps = by_rule (step_of t) 0 p.rules in
      let calls = by_rule (push_of p.controls PrePushControl ts t) 0 p.rules in
      let stays = by_rule (push_of p.controls PrePushOther ts t) 0 p.rules in
      elim (in_append j steps (calls ++ stays) listed) [
        | inl first ↦ let one = from_rules (step_of t) p.rules j first in from_step one.number one.by one.there j (one_symbol one.by.right) refl one.is
        | inr rest ↦ elim (in_append j calls stays rest) [
          | inl second ↦ let one = from_rules (push_of p.controls PrePushControl ts t) p.rules j second in from_push one.number one.by one.there PrePushControl (inl refl) j (two_symbols one.by.right) refl one.is
          | inr third ↦ let one = from_rules (push_of p.controls PrePushOther ts t) p.rules j third in from_push one.number one.by one.there PrePushOther (inr refl) j (two_symbols one.by.right) refl one.is
        ]
      ]

  -- a step rule's job is listed
  step_listed : (j : Job S W Map) → IsStepJob p j → HasInput j t → IsIn j (pre_jobs p ts t)
  step_listed j is has =
      let r = is.by in
      let k = is.number in
      let P : Job S W Map → Type 0 = λ z. HasInput z t in
      let same : is.input ≡ t = elim (subst P is.is has) [ inl e ↦ same_Some is.input t e | inr e ↦ cc ] in
      let at : t.place ≡ arrow r.to is.top j.goal.to = ap (λ (u : Entry S W Map). u.place) (sym same) ∙ is.place in
      let to : t.place.to ≡ j.goal.to = ap (λ (x : Place). x.to) at in
      let made : step_job k r t ≡ j = ap₂ (λ u q. rule_job p k r PreStep (Some u) None q) (sym same) to ∙ sym is.is in
      let test = is_from_there r.to is.top j.goal.to t at in
      let Q : List ℕ → Type 0 = λ w. IsIn (step_job k r t) (elim (one_symbol w) [ None ↦ [] | Some g ↦ only_if (is_from r.to (Symbol g) t) (step_job k r t) ]) in
      let R : Job S W Map → Type 0 = λ z. IsIn z (pre_jobs p ts t) in
      let one = in_rules (step_of t) k p.rules r (step_job k r t) is.there (subst Q (sym is.right) (in_only (is_from r.to (Symbol is.top) t) (step_job k r t) test)) in
      subst R made (in_left (step_job k r t) (by_rule (step_of t) 0 p.rules) (by_rule (push_of p.controls PrePushControl ts t) 0 p.rules ++ by_rule (push_of p.controls PrePushOther ts t) 0 p.rules) one)

  module _ (k : ℕ) (r : Rule S W Map) (there : slice_get p.rules k ≡ Some r) (g h : ℕ) (right : r.right ≡ g ∷ h ∷ []) (mid q : ℕ) (a b : Entry S W Map) (ia : Present ts a) (ib : Present ts b)
      (at : a.place ≡ arrow r.to g mid) (at' : b.place ≡ arrow mid h q) (kind : JobKind) (sorted : ((kind ≡ PrePushControl) × (mid < p.controls)) ⊎ ((kind ≡ PrePushOther) × (p.controls ≤ mid))) where
    comes : a.place.to ≡ mid
    comes = ap (λ (x : Place). x.to) at

    goes : goes_on p.controls kind a.place.to ≡ true
    goes =
        let P : JobKind → Type 0 = λ z. goes_on p.controls z a.place.to ≡ true in
        let low : ℕ → Type 0 = λ n. n < p.controls in
        let high : ℕ → Type 0 = λ n. p.controls ≤ n in
        elim sorted [
          | inl e ↦ subst P (sym e.0) (lt-ltb a.place.to p.controls (subst low (sym comes) e.1))
          | inr e ↦ subst P (sym e.0) (ap not (le-ltb a.place.to p.controls (subst high (sym comes) e.1)))
        ]

    inputs : are_inputs p.controls kind r g h a b ≡ true
    inputs =
        and_from (is_from r.to (Symbol g) a) (is_from a.place.to (Symbol h) b && goes_on p.controls kind a.place.to) (is_from_there r.to g mid a at)
        (and_from (is_from a.place.to (Symbol h) b) (goes_on p.controls kind a.place.to) (is_from_there a.place.to h q b (at' ∙ ap (λ n. arrow n h q) (sym comes))) goes)

    abbrev job : Job S W Map
    job = push_job kind k r a b

    -- the pair is found from the transition, whichever of the two it is
    first_listed : a ≡ t → (u : Entry S W Map) × Present ts u × IsIn job (pair_jobs p.controls kind k r g h t u)
    first_listed same =
        let P : Entry S W Map → Type 0 = λ z. IsIn job (pair_jobs p.controls kind k r g h z b) in
        (b, ib, subst P same (in_left job (only_if (are_inputs p.controls kind r g h a b) job) _ (in_only (are_inputs p.controls kind r g h a b) job inputs)))

    pair_listed : (a ≡ t) ⊎ (b ≡ t) → (u : Entry S W Map) × Present ts u × IsIn job (pair_jobs p.controls kind k r g h t u)
    pair_listed (inl same) = first_listed same
    pair_listed (inr same) = elim (cases_place a.place b.place) [
      | inl one ↦ first_listed (present_once ts a b ia ib one ∙ same)
      | inr other ↦
          let P : Entry S W Map → Type 0 = λ z. IsIn job (pair_jobs p.controls kind k r g h z a) in
          let test = and_from (not (same_place a.place b.place)) (are_inputs p.controls kind r g h a b) (ap not (other_place a.place b.place other)) inputs in
          (a, ia, subst P same (in_right job _ (only_if (not (same_place a.place b.place) && are_inputs p.controls kind r g h a b) job) (in_only (not (same_place a.place b.place) && are_inputs p.controls kind r g h a b) job test)))
    ]

    may_be : (a ≡ t) ⊎ (b ≡ t) → may_be_input r g h t ≡ true
    may_be (inl same) = let P : Entry S W Map → Type 0 = λ z. may_be_input r g h z ≡ true in
        subst P same (or_left (is_from r.to (Symbol g) a) (same_label a.place.label (Symbol h)) (is_from_there r.to g mid a at))
    may_be (inr same) = let P : Entry S W Map → Type 0 = λ z. may_be_input r g h z ≡ true in
        subst P same (or_right (is_from r.to (Symbol g) b) (same_label b.place.label (Symbol h)) (label_from b.place.label h (ap (λ (x : Place). x.label) at')))

    push_listed : (a ≡ t) ⊎ (b ≡ t) → IsIn job (by_rule (push_of p.controls kind ts t) 0 p.rules)
    push_listed one =
        let pair = pair_listed one in
        let Q : List ℕ → Type 0 = λ w. IsIn job (elim (two_symbols w) [ None ↦ [] | Some v ↦ pairs_of p.controls kind ts t k r v.0 v.1 ]) in
        let P : List (Job S W Map) → Type 0 = IsIn job in
        let all = flat_map (pair_jobs p.controls kind k r g h t) ts in
        let found : IsIn job all = in_flat_map (pair_jobs p.controls kind k r g h t) job pair.0 ts (entry_in pair.0.place ts pair.0 pair.1) pair.2 in
        in_rules (push_of p.controls kind ts t) k p.rules r job there (subst Q (sym right) (subst P (sym (cond-true (may_be_input r g h t) all [] (may_be one))) found))

  of_kind : (kind : JobKind) (mid : ℕ) → ((kind ≡ PrePushControl) × (mid < p.controls)) ⊎ ((kind ≡ PrePushOther) × (p.controls ≤ mid)) → (j : Job S W Map)
      → IsIn j (by_rule (push_of p.controls kind ts t) 0 p.rules) → IsIn j (pre_jobs p ts t)
  of_kind kind mid sorted j h =
      let steps = by_rule (step_of t) 0 p.rules in
      let calls = by_rule (push_of p.controls PrePushControl ts t) 0 p.rules in
      let stays = by_rule (push_of p.controls PrePushOther ts t) 0 p.rules in
      let P : JobKind → Type 0 = λ z. IsIn j (by_rule (push_of p.controls z ts t) 0 p.rules) in
      elim sorted [
        | inl e ↦ in_right j steps (calls ++ stays) (in_left j calls stays (subst P e.0 h))
        | inr e ↦ in_right j steps (calls ++ stays) (in_right j calls stays (subst P e.0 h))
      ]

  -- a push rule's job is listed
  push_is_listed : (j : Job S W Map) → IsPushJob p j → ((u : Entry S W Map) → HasInput j u → Present ts u) → HasInput j t → IsIn j (pre_jobs p ts t)
  push_is_listed j is inputs has =
      let r = is.by in
      let k = is.number in
      let P : Job S W Map → Type 0 = λ z. HasInput z t in
      let one : (is.callee ≡ t) ⊎ (is.after ≡ t) = elim (subst P is.is has) [ inl e ↦ inl (same_Some is.callee t e) | inr e ↦ inr (same_Some is.after t e) ] in
      let first : HasInput j is.callee = inl (ap (λ (z : Job S W Map). z.first) is.is) in
      let second : HasInput j is.after = inr (ap (λ (z : Job S W Map). z.second) is.is) in
      let to : is.after.place.to ≡ j.goal.to = ap (λ (x : Place). x.to) is.next in
      let made : push_job is.sort k r is.callee is.after ≡ j = ap (λ q. rule_job p k r is.sort (Some is.callee) (Some is.after) q) to ∙ sym is.is in
      let R : Job S W Map → Type 0 = λ z. IsIn z (pre_jobs p ts t) in
      subst R made (of_kind is.sort is.mid is.sorted (push_job is.sort k r is.callee is.after)
      (push_listed k r is.there is.top is.below is.right is.mid j.goal.to is.callee is.after (inputs is.callee first) (inputs is.after second) is.place is.next is.sort is.sorted one))

  -- each consequence that the transition is an input of is listed
  pub jobs_all : (j : Job S W Map) → IsConsequence (pre_tables s p) ts j → HasInput j t → IsIn j (pre_jobs p ts t)
  jobs_all j drawn has = elim (row_says p j drawn.row) [
    | inl is ↦ step_listed j is has
    | inr is ↦ push_is_listed j is drawn.inputs has
  ]
