-- A saturation's weights are closed under the backward rows.
use Rattle.std.proofs.Common.{◌≡◌, inl, inr, ℕ, ◌<◌, ◌≤◌, true, List, [], ◌∷◌, refl, sym, ap, ◌∙◌, subst}
use Rattle.std.specs.Prelude.{Option, None, Some, slice_get, unwrap_or}
use Rattle.std.proofs.lemmas.Option.{same_Some}
use Rattle.semiring_laws.specs.Semiring.{Operations, IsSemiring, Fits, FitsMap, Below}
use Rattle.weighted_automata.specs.declared.place.Place.{Place}
use Rattle.weighted_automata.specs.declared.transitions.Entry.{Entry}
use Rattle.weighted_automata.specs.Entries.{entry_at, Present}
use Rattle.weighted_automata.proofs.CallerLemmas.{entry_at-place}
use Rattle.witness_graph.specs.declared.node.Side.TheVariants.{Pre}
use Rattle.pushdown_rules.specs.declared.rule.Rule.{Rule}
use Rattle.pushdown_rules.specs.Pushdown.{Pushdown, IsSystem}
use Rattle.pushdown_rules.specs.Values.{value_of}
use Rattle.saturation_laws.specs.declared.opening.Opening.{Opening}
use Rattle.saturation_laws.specs.declared.job.JobKind.{JobKind}
use Rattle.saturation_laws.specs.declared.job.JobKind.TheVariants.{PreStep, PrePushControl, PrePushOther}
use Rattle.saturation_laws.specs.declared.job.Job.{Job}
use Rattle.saturation_laws.specs.Jobs.{Tables, row_of, HasInput}
use Rattle.wpds_base.specs.Lists.{IsIn}
use Rattle.saturation_laws.specs.States.{weight_of, weight_at}
use Rattle.saturation_laws.specs.Openings.{opening_state}
use Rattle.saturation_laws.specs.Directions.{IsConsequence}
use Rattle.saturation_laws.specs.Invariants.{IsApplied}
use Rattle.saturation_laws.specs.Paths.{IsSaturated, HasSums}
use Rattle.semiring_laws.proofs.CallerLemmas.{below_zero}
use Rattle.saturation_laws.proofs.CallerLemmas.{opening_weights_fit, opening_edges, opening_pops, opened_below}
use Rattle.prestar_laws.specs.Reading.{PreRun}
use Rattle.prestar_laws.specs.Rows.{rule_row, pre_rows, rule_candidate, at_rule}
use Rattle.prestar_laws.proofs.Weights.{IsClosedUnder, IsBackward}
use Rattle.pushdown_rules.proofs.CallerLemmas.{weight_fits, map_fits}
use Rattle.prestar_laws.proofs.PathLemmas.{pre_met, pre_gives}
use Rattle.prestar_laws.proofs.RowTestLemmas.{row_test, step_test, call_test, stay_test}
use Rattle.direction_parts.specs.Places.{LeadsToItems, arrow}
use Rattle.direction_parts.proofs.CallerLemmas.{weights_at_fit}

module _ {S W Map : Type 0} {operations : S → Operations W Map} {p : Pushdown S W Map} (valid : IsSystem operations p) (laws : IsSemiring (operations p.semiring))
    (d : Tables S W Map) (backward : IsBackward (operations p.semiring) p d) (ts : List (Entry S W Map))
    (fit : (x : Place) → Fits (operations p.semiring) (weight_at (operations p.semiring) x ts))
    (applied : (j : Job S W Map) → IsConsequence d ts j → IsApplied (operations p.semiring) d ts j) where
  abbrev s : Operations W Map
  s = operations p.semiring

  abbrev weight : Place → W
  weight x = weight_at s x ts

  module _ (k : ℕ) (r : Rule S W Map) (there : slice_get p.rules k ≡ Some r) (q : ℕ) where
    abbrev goal : Place
    goal = arrow r.control r.symbol q

    abbrev job : JobKind → Option (Entry S W Map) → Option (Entry S W Map) → Job S W Map
    job kind first second = record { kind = kind; rule = Some k; frame = None; first = first; second = second; goal = goal }

    fr : Fits s r.weight
    fr = weight_fits valid laws k r there

    -- a row of the rule whose inputs are there is applied
    row_applied : (kind : JobKind) (first second : Option (Entry S W Map)) → rule_row p r (row_of (job kind first second)) ≡ true
        → ((t : Entry S W Map) → HasInput (job kind first second) t → Present ts t) → Below s (weight goal) (rule_candidate s r (job kind first second))
    row_applied kind first second row inputs =
        let j = job kind first second in
        let test : pre_rows p (row_of j) ≡ true = row_test p k r there kind first second q row in
        let P : W → Type 0 = Below s (weight goal) in
        subst P (backward.candidate j ∙ ap (λ o. at_rule s o j) there) (applied j (record { row = backward.rows (row_of j) ∙ test; inputs = inputs }))

    itself : (x : Place) (t : Entry S W Map) → entry_at x ts ≡ Some t → Present ts t
    itself x t e = ap (λ y. entry_at y ts) (entry_at-place x ts t e) ∙ e

    step_below : (g : ℕ) → r.right ≡ g ∷ [] → (o : Option (Entry S W Map)) → entry_at (arrow r.to g q) ts ≡ o → Below s (weight goal) (s.extend r.weight (weight_of s o))
    step_below g right None e = let P : W → Type 0 = Below s (weight goal) in subst P (sym (laws.extend-zero_right r.weight fr)) (below_zero laws (weight goal) (fit goal))
    step_below g right (Some t) e =
        let at : t.place ≡ arrow r.to g q = entry_at-place (arrow r.to g q) ts t e in
        row_applied PreStep (Some t) None (step_test p k r g right q t at)
        (λ u has. elim has [
          | inl e' ↦ let P : Entry S W Map → Type 0 = Present ts in subst P (same_Some t u e') (itself (arrow r.to g q) t e)
          | inr e' ↦ cc
        ])

    module _ (g₁ g₂ : ℕ) (right : r.right ≡ g₁ ∷ g₂ ∷ []) (q₁ : ℕ) where
      abbrev x₁ : Place
      x₁ = arrow r.to g₁ q₁

      abbrev x₂ : Place
      x₂ = arrow q₁ g₂ q

      inputs_there : (kind : JobKind) (t u : Entry S W Map) → entry_at x₁ ts ≡ Some t → entry_at x₂ ts ≡ Some u → (v : Entry S W Map) → HasInput (job kind (Some t) (Some u)) v → Present ts v
      inputs_there kind t u e e' v has = let P : Entry S W Map → Type 0 = Present ts in elim has [
        | inl h ↦ subst P (same_Some t v h) (itself x₁ t e)
        | inr h ↦ subst P (same_Some u v h) (itself x₂ u e')
      ]

      abbrev m : Map
      m = unwrap_or r.map s.plain

      fm : FitsMap s m
      fm = map_fits valid laws k r there g₁ g₂ right

      call_below : q₁ < p.controls → (o o' : Option (Entry S W Map)) → entry_at x₁ ts ≡ o → entry_at x₂ ts ≡ o' → Fits s (weight_of s o) → Fits s (weight_of s o')
          → Below s (weight goal) (s.extend (s.after m (s.extend r.weight (weight_of s o))) (weight_of s o'))
      call_below low None o' e e' f f' = let P : W → Type 0 = Below s (weight goal) in
          subst P (sym (ap (λ w. s.extend (s.after m w) (weight_of s o')) (laws.extend-zero_right r.weight fr) ∙ ap (λ w. s.extend w (weight_of s o')) (laws.after-zero m fm)
          ∙ laws.extend-zero_left (weight_of s o') f')) (below_zero laws (weight goal) (fit goal))
      call_below low (Some t) None e e' f f' = let P : W → Type 0 = Below s (weight goal) in
          subst P (sym (laws.extend-zero_right (s.after m (s.extend r.weight t.weight)) (laws.fits-after m (s.extend r.weight t.weight) fm (laws.fits-extend r.weight t.weight fr f))))
          (below_zero laws (weight goal) (fit goal))
      call_below low (Some t) (Some u) e e' f f' =
          let at = entry_at-place x₁ ts t e in
          let at' = entry_at-place x₂ ts u e' in
          row_applied PrePushControl (Some t) (Some u) (call_test p k r g₁ g₂ right q₁ q t u at at' low) (inputs_there PrePushControl t u e e')

      stay_below : p.controls ≤ q₁ → (o o' : Option (Entry S W Map)) → entry_at x₁ ts ≡ o → entry_at x₂ ts ≡ o' → Fits s (weight_of s o) → Fits s (weight_of s o')
          → Below s (weight goal) (s.extend (s.extend r.weight (weight_of s o)) (weight_of s o'))
      stay_below high None o' e e' f f' = let P : W → Type 0 = Below s (weight goal) in
          subst P (sym (ap (λ w. s.extend w (weight_of s o')) (laws.extend-zero_right r.weight fr) ∙ laws.extend-zero_left (weight_of s o') f')) (below_zero laws (weight goal) (fit goal))
      stay_below high (Some t) None e e' f f' = let P : W → Type 0 = Below s (weight goal) in
          subst P (sym (laws.extend-zero_right (s.extend r.weight t.weight) (laws.fits-extend r.weight t.weight fr f))) (below_zero laws (weight goal) (fit goal))
      stay_below high (Some t) (Some u) e e' f f' =
          let at = entry_at-place x₁ ts t e in
          let at' = entry_at-place x₂ ts u e' in
          row_applied PrePushOther (Some t) (Some u) (stay_test p k r g₁ g₂ right q₁ q t u at at' high) (inputs_there PrePushOther t u e e')

  module _ (edges : List Place) (opens : (x : Place) → IsIn x edges → Below s (weight x) s.one)
      (pops : (k : ℕ) (r : Rule S W Map) → slice_get p.rules k ≡ Some r → r.right ≡ [] → Below s (weight (arrow r.control r.symbol r.to)) r.weight) where
    pub closed_under : IsClosedUnder s p edges weight
    closed_under = record {
      fits = fit;
      opens = λ from g to edge. opens (arrow from g to) edge;
      pops = pops;
      steps = λ k r there g right q. step_below k r there q g right (entry_at (arrow r.to g q) ts) refl;
      calls = λ k r there g₁ g₂ right q₁ q low. call_below k r there q g₁ g₂ right q₁ low (entry_at (arrow r.to g₁ q₁) ts) (entry_at (arrow q₁ g₂ q) ts) refl refl (fit (arrow r.to g₁ q₁)) (fit (arrow q₁ g₂ q));
      stays = λ k r there g₁ g₂ right q₁ q high. stay_below k r there q g₁ g₂ right q₁ high (entry_at (arrow r.to g₁ q₁) ts) (entry_at (arrow q₁ g₂ q) ts) refl refl (fit (arrow r.to g₁ q₁)) (fit (arrow q₁ g₂ q));
    }

module _ {S W Map : Type 0} {operations : S → Operations W Map} {p : Pushdown S W Map} (valid : IsSystem operations p) (laws : IsSemiring (operations p.semiring))
    (o : Opening) (items : LeadsToItems p.controls o.edges) (d : Tables S W Map) (backward : IsBackward (operations p.semiring) p d) where
  abbrev sr : Operations W Map
  sr = operations p.semiring

  abbrev opening : List (Entry S W Map)
  opening = (opening_state sr Pre p o.edges).transitions

  saturated_closed : (ts : List (Entry S W Map)) → IsSaturated sr d opening ts → IsClosedUnder sr p o.edges (λ x. weight_at sr x ts)
  saturated_closed ts is =
      let fit = weights_at_fit laws ts is.fit in
      let rules : (k : ℕ) (r : Rule S W Map) → slice_get p.rules k ≡ Some r → Fits sr r.weight = λ k r e. weight_fits valid laws k r e in
      let fo = opening_weights_fit laws p rules o.edges in
      closed_under valid laws d backward ts fit is.applied o.edges
      (λ x edge. opened_below laws opening ts is.opened fo fit x sr.one laws.fits-one (opening_edges laws p rules o.edges x edge))
      (λ k r there none. opened_below laws opening ts is.opened fo fit (arrow r.control r.symbol r.to) r.weight (rules k r there) (opening_pops laws p rules o.edges k r there none))

  -- the two laws on sums, for the backward table
  pub pre_sums : HasSums sr (value_of sr p) p o Pre d opening (PreRun p o.edges)
  pre_sums = record {
    met = λ ts is run from to low low' goes opened some. pre_met valid laws o items ts (saturated_closed ts is) run from to goes opened some;
    gives = λ c xs rs to low path each. pre_gives valid laws o.edges items o refl c xs rs to low path each;
  }
