-- Each job of a transition is listed once.
use Rattle.std.proofs.Common.{◌≡◌, ◌⊎◌, inl, inr, ℕ, Bool, true, false, List, [], ◌++◌, sym, ap, ◌∙◌}
use Rattle.std.specs.Prelude.{Option, None, Some, ◌&&◌, not}
use Rattle.std.specs.List.{flat_map}
use Rattle.std.proofs.lemmas.Bool.{and_parts, not-true, cond_both}
use Rattle.std.proofs.lemmas.Option.{same_Some}
use Rattle.weighted_automata.specs.declared.place.Label.TheVariants.{Symbol}
use Rattle.weighted_automata.specs.declared.transitions.Entry.{Entry}
use Rattle.weighted_automata.specs.Places.{same_place}
use Rattle.weighted_automata.specs.Entries.{is_from, HasDistinctPlaces}
use Rattle.weighted_automata.proofs.CallerLemmas.{same_place_from}
use Rattle.pushdown_rules.specs.declared.rule.Rule.{Rule}
use Rattle.pushdown_rules.specs.Pushdown.{Pushdown}
use Rattle.saturation_laws.specs.declared.job.JobKind.{JobKind}
use Rattle.saturation_laws.specs.declared.job.JobKind.TheVariants.{PreStep, PrePushControl, PrePushOther}
use Rattle.saturation_laws.specs.declared.job.Job.{Job}
use Rattle.wpds_base.specs.Lists.{IsIn, IsOnce}
use Rattle.saturation_laws.proofs.CallerLemmas.{in_append, from_flat_map}
use Rattle.prestar_laws.specs.Jobs.{step_job, push_job, step_of, are_inputs, pair_jobs, may_be_input, pairs_of, push_of, pre_jobs}
use Rattle.direction_parts.specs.Passes.{only_if, by_rule, one_symbol, two_symbols}
use Rattle.direction_parts.proofs.CallerLemmas.{from_only, once_append, once_only, once_flat_map, once_by_rule, all_rules, distinct_once}

module _ {S W Map : Type 0} where
  step_once : (t : Entry S W Map) (k : ℕ) (r : Rule S W Map) (o : Option ℕ) → IsOnce (elim o [ None ↦ [] | Some g ↦ only_if (is_from r.to (Symbol g) t) (step_job k r t) ])
  step_once t k r None = tt
  step_once t k r (Some g) = once_only (is_from r.to (Symbol g) t) (step_job k r t)

  step_is : (t : Entry S W Map) (k : ℕ) (r : Rule S W Map) (o : Option ℕ) (j : Job S W Map) → IsIn j (elim o [ None ↦ [] | Some g ↦ only_if (is_from r.to (Symbol g) t) (step_job k r t) ]) → step_job k r t ≡ j
  step_is t k r None j h = absurd h
  step_is t k r (Some g) j h = (from_only (is_from r.to (Symbol g) t) (step_job k r t) j h).1

  module _ (controls : ℕ) (kind : JobKind) (ts : List (Entry S W Map)) (t : Entry S W Map) (distinct : HasDistinctPlaces ts) (k : ℕ) (r : Rule S W Map) where
    -- the job is of the transition and the other one
    abbrev IsOf : Job S W Map → Entry S W Map → Type 0
    IsOf j u = (push_job kind k r t u ≡ j) ⊎ ((push_job kind k r u t ≡ j) × (u.place ≡ t.place → ⊥))

    first_of : (a b c d : Entry S W Map) (j : Job S W Map) → push_job kind k r a b ≡ j → push_job kind k r c d ≡ j → a ≡ c
    first_of a b c d j e e' = same_Some a c (ap (λ (z : Job S W Map). z.first) (e ∙ sym e'))

    second_of : (a b c d : Entry S W Map) (j : Job S W Map) → push_job kind k r a b ≡ j → push_job kind k r c d ≡ j → b ≡ d
    second_of a b c d j e e' = same_Some b d (ap (λ (z : Job S W Map). z.second) (e ∙ sym e'))

    one_other : (j : Job S W Map) (u v : Entry S W Map) → IsOf j u → IsOf j v → u ≡ v
    one_other j u v (inl e) (inl e') = second_of t u t v j e e'
    one_other j u v (inl e) (inr e') = absurd (e'.1 (ap (λ (x : Entry S W Map). x.place) (sym (first_of t u v t j e e'.0))))
    one_other j u v (inr e) (inl e') = absurd (e.1 (ap (λ (x : Entry S W Map). x.place) (first_of u t t v j e.0 e')))
    one_other j u v (inr e) (inr e') = first_of u t v t j e.0 e'.0

    module _ (g h : ℕ) where
      abbrev one : Entry S W Map → Bool
      one u = are_inputs controls kind r g h t u

      abbrev other : Entry S W Map → Bool
      other u = not (same_place u.place t.place) && are_inputs controls kind r g h u t

      apart : (u : Entry S W Map) → other u ≡ true → u.place ≡ t.place → ⊥
      apart u test same =
          let parts = and_parts (not (same_place u.place t.place)) (are_inputs controls kind r g h u t) test in
          let e : true ≡ false = sym (same_place_from u.place t.place same) ∙ not-true (same_place u.place t.place) parts.0 in cc

      pair_is : (u : Entry S W Map) (j : Job S W Map) → IsIn j (pair_jobs controls kind k r g h t u) → IsOf j u
      pair_is u j listed = elim (in_append j (only_if (one u) (push_job kind k r t u)) (only_if (other u) (push_job kind k r u t)) listed) [
        | inl first ↦ inl (from_only (one u) (push_job kind k r t u) j first).1
        | inr second ↦ let is = from_only (other u) (push_job kind k r u t) j second in inr (is.1, apart u is.0)
      ]

      pair_once : (u : Entry S W Map) → IsOnce (pair_jobs controls kind k r g h t u)
      pair_once u =
          once_append (only_if (one u) (push_job kind k r t u)) (only_if (other u) (push_job kind k r u t)) (once_only (one u) (push_job kind k r t u)) (once_only (other u) (push_job kind k r u t))
          (λ j a b.
          let first = from_only (one u) (push_job kind k r t u) j a in
          let second = from_only (other u) (push_job kind k r u t) j b in
          apart u second.0 (ap (λ (x : Entry S W Map). x.place) (sym (first_of t u u t j first.1 second.1))))

      pairs_once : IsOnce (pairs_of controls kind ts t k r g h)
      pairs_once = cond_both (may_be_input r g h t) (flat_map (pair_jobs controls kind k r g h t) ts) [] IsOnce
          (λ _. once_flat_map (pair_jobs controls kind k r g h t) IsOf pair_is one_other pair_once ts (distinct_once ts distinct)) (λ _. tt)

      pairs_are : (j : Job S W Map) → IsIn j (pairs_of controls kind ts t k r g h) → (j.rule ≡ Some k) × (j.kind ≡ kind)
      pairs_are j listed =
          let P : List (Job S W Map) → Type 0 = λ js. IsIn j js → (j.rule ≡ Some k) × (j.kind ≡ kind) in
          let made : (a b : Entry S W Map) → push_job kind k r a b ≡ j → (j.rule ≡ Some k) × (j.kind ≡ kind) = λ a b e.
          (ap (λ (z : Job S W Map). z.rule) (sym e), ap (λ (z : Job S W Map). z.kind) (sym e)) in
          cond_both (may_be_input r g h t) (flat_map (pair_jobs controls kind k r g h t) ts) [] P
          (λ _ l. let u = from_flat_map (pair_jobs controls kind k r g h t) j ts l in
          elim (pair_is u.before j u.is) [ inl e ↦ made t u.before e | inr e ↦ made u.before t e.0 ])
          (λ _ l. absurd l) listed

    push_once : (o : Option (ℕ × ℕ)) → IsOnce (elim o [ None ↦ [] | Some w ↦ pairs_of controls kind ts t k r w.0 w.1 ])
    push_once None = tt
    push_once (Some w) = pairs_once w.0 w.1

    push_are : (o : Option (ℕ × ℕ)) (j : Job S W Map) → IsIn j (elim o [ None ↦ [] | Some w ↦ pairs_of controls kind ts t k r w.0 w.1 ]) → (j.rule ≡ Some k) × (j.kind ≡ kind)
    push_are None j h = absurd h
    push_are (Some w) j h = pairs_are w.0 w.1 j h

module _ {S W Map : Type 0} (p : Pushdown S W Map) (ts : List (Entry S W Map)) (t : Entry S W Map) (distinct : HasDistinctPlaces ts) where
  abbrev number : Job S W Map → Option ℕ
  number j = j.rule

  abbrev pushes : JobKind → List (Job S W Map)
  pushes kind = by_rule (push_of p.controls kind ts t) 0 p.rules

  steps_once : IsOnce (by_rule (step_of t) 0 p.rules)
  steps_once = once_by_rule (step_of t) number (λ k r j h. ap number (sym (step_is t k r (one_symbol r.right) j h))) (λ k r. step_once t k r (one_symbol r.right)) 0 p.rules

  steps_are : (j : Job S W Map) → IsIn j (by_rule (step_of t) 0 p.rules) → j.kind ≡ PreStep
  steps_are j h = all_rules (step_of t) (λ i. i.kind ≡ PreStep) (λ k r i g. ap (λ (z : Job S W Map). z.kind) (sym (step_is t k r (one_symbol r.right) i g))) 0 p.rules j h

  pushes_once : (kind : JobKind) → IsOnce (pushes kind)
  pushes_once kind =
      once_by_rule (push_of p.controls kind ts t) number (λ k r j h. (push_are p.controls kind ts t distinct k r (two_symbols r.right) j h).0)
      (λ k r. push_once p.controls kind ts t distinct k r (two_symbols r.right)) 0 p.rules

  pushes_are : (kind : JobKind) (j : Job S W Map) → IsIn j (pushes kind) → j.kind ≡ kind
  pushes_are kind j h = all_rules (push_of p.controls kind ts t) (λ i. i.kind ≡ kind) (λ k r i g. (push_are p.controls kind ts t distinct k r (two_symbols r.right) i g).1) 0 p.rules j h

  pub jobs_once : IsOnce (pre_jobs p ts t)
  jobs_once =
      let calls = pushes PrePushControl in
      let stays = pushes PrePushOther in
      once_append (by_rule (step_of t) 0 p.rules) (calls ++ stays) steps_once
      (once_append calls stays (pushes_once PrePushControl) (pushes_once PrePushOther) (λ j a b.
      let e : PrePushControl ≡ PrePushOther = sym (pushes_are PrePushControl j a) ∙ pushes_are PrePushOther j b in cc))
      (λ j a b. elim (in_append j calls stays b) [
        | inl c ↦ let e : PreStep ≡ PrePushControl = sym (steps_are j a) ∙ pushes_are PrePushControl j c in cc
        | inr c ↦ let e : PreStep ≡ PrePushOther = sym (steps_are j a) ∙ pushes_are PrePushOther j c in cc
      ])
