-- What is below the weights that an opening is made of is below the opening's weights.
use Rattle.std.proofs.Common.{◌≡◌, inl, inr, ℕ, suc, zero, List, [], ◌∷◌, refl, sym, ap, ◌∙◌, subst}
use Rattle.std.specs.Prelude.{Some, slice_get}
use Rattle.std.proofs.lemmas.Bool.{cond_both}
use Rattle.semiring_laws.specs.Semiring.{Operations, IsSemiring, Fits, Below}
use Rattle.semiring_laws.proofs.CallerLemmas.{below_zero}
use Rattle.weighted_automata.specs.declared.place.Place.{Place}
use Rattle.weighted_automata.proofs.CallerLemmas.{cases_place, entry_at-lowered_same, entry_at-lowered_other}
use Rattle.witness_graph.specs.declared.node.Side.TheVariants.{Pre}
use Rattle.pushdown_rules.specs.declared.rule.Rule.{Rule}
use Rattle.pushdown_rules.specs.Pushdown.{Pushdown}
use Rattle.wpds_base.specs.Lists.{IsIn}
use Rattle.saturation_laws.specs.States.{CoreState, Change, weight_of, weight_at, lower_state, apply, apply_all}
use Rattle.saturation_laws.specs.Openings.{head_place, pop_change, pops_of, pops_from, with_edge, with_edges, bare, opening_state}
use Rattle.saturation_laws.proofs.CallerLemmas.{in_append}

-- The weights of a state, each above one that is given for its place.
pub record IsAbove {S W Map : Type 0} (s : Operations W Map) (low : Place → W) (st : CoreState S W Map) : Type 0 where
  pub fits : (x : Place) → Fits s (weight_at s x st.transitions)
  pub below : (x : Place) → Below s (low x) (weight_at s x st.transitions)

-- A change whose weight fits, and is above the one that is given for its goal.
record IsHigh {W Map : Type 0} (s : Operations W Map) (low : Place → W) (c : Change W) : Type 0 where
  fits : Fits s c.weight
  below : Below s (low c.goal) c.weight

-- what is below two weights is below their combine
below_both : {W Map : Type 0} {s : Operations W Map} → IsSemiring s → (c a b : W) → Fits s c → Fits s a → Fits s b → Below s c a → Below s c b → Below s c (s.combine a b)
below_both {s = s} laws c a b fc fa fb ca cb = sym (laws.combine_assoc c a b fc fa fb) ∙ ap (λ x. s.combine x b) ca ∙ cb

module _ {S W Map : Type 0} {s : Operations W Map} (laws : IsSemiring s) (low : Place → W) (fit : (x : Place) → Fits s (low x)) where
  edge_above : (x : Place) (st : CoreState S W Map) → IsAbove s low st → Below s (low x) s.one → IsAbove s low (with_edge s x st)
  edge_above x st is one =
      let new = with_edge s x st in
      let at : (y : Place) → Fits s (weight_at s y new.transitions) × Below s (low y) (weight_at s y new.transitions) = λ y.
      elim (cases_place x y) [
        | inl same ↦
            let P : Place → Type 0 = λ z. Fits s (weight_at s z new.transitions) × Below s (low z) (weight_at s z new.transitions) in
            let Q : W → Type 0 = λ w. Fits s w × Below s (low x) w in
            subst P same (subst Q (sym (ap (weight_of s) (entry_at-lowered_same x s.one 0 st.transitions))) (laws.fits-one, one))
        | inr other ↦
            let Q : W → Type 0 = λ w. Fits s w × Below s (low y) w in
            subst Q (sym (ap (weight_of s) (entry_at-lowered_other x y s.one 0 st.transitions other))) (is.fits y, is.below y)
      ] in
      record { fits = λ y. (at y).0; below = λ y. (at y).1 }

  edges_above : (xs : List Place) (st : CoreState S W Map) → IsAbove s low st → ((x : Place) → IsIn x xs → Below s (low x) s.one) → IsAbove s low (with_edges s xs st)
  edges_above [] st is each = is
  edges_above (x ∷ xs) st is each = edges_above xs (with_edge s x st) (edge_above x st is (each x (inl refl))) (λ y h. each y (inr h))

  apply_above : (c : Change W) (st : CoreState S W Map) → IsAbove s low st → IsHigh s low c → IsAbove s low (apply s c st)
  apply_above c st is high =
      let old = weight_at s c.goal st.transitions in
      let w = s.combine old c.weight in
      let new = lower_state s c w st in
      let fw = laws.fits-combine old c.weight (is.fits c.goal) high.fits in
      let bw = below_both laws (low c.goal) old c.weight (fit c.goal) (is.fits c.goal) high.fits (is.below c.goal) high.below in
      let at : (y : Place) → Fits s (weight_at s y new.transitions) × Below s (low y) (weight_at s y new.transitions) = λ y.
      elim (cases_place c.goal y) [
        | inl same ↦
            let P : Place → Type 0 = λ z. Fits s (weight_at s z new.transitions) × Below s (low z) (weight_at s z new.transitions) in
            let Q : W → Type 0 = λ v. Fits s v × Below s (low c.goal) v in
            subst P same (subst Q (sym (ap (weight_of s) (entry_at-lowered_same c.goal w _ st.transitions))) (fw, bw))
        | inr other ↦
            let Q : W → Type 0 = λ v. Fits s v × Below s (low y) v in
            subst Q (sym (ap (weight_of s) (entry_at-lowered_other c.goal y w _ st.transitions other))) (is.fits y, is.below y)
      ] in
      let P : CoreState S W Map → Type 0 = IsAbove s low in
      cond_both (s.same w old) st new P (λ _. is) (λ _. record { fits = λ y. (at y).0; below = λ y. (at y).1 })

  all_above : (cs : List (Change W)) (st : CoreState S W Map) → IsAbove s low st → ((c : Change W) → IsIn c cs → IsHigh s low c) → IsAbove s low (apply_all s cs st)
  all_above [] st is each = is
  all_above (c ∷ cs) st is each = all_above cs (apply s c st) (apply_above c st is (each c (inl refl))) (λ e h. each e (inr h))

  pop_high : (n : ℕ) (r : Rule S W Map) → (r.right ≡ [] → Fits s r.weight × Below s (low (head_place r)) r.weight) → (c : Change W) → IsIn c (pops_of n r) → IsHigh s low c
  pop_high n r of c h =
      let P : Change W → Type 0 = IsHigh s low in
      elim r.right as (λ w. r.right ≡ w → IsIn c (elim w [ [] ↦ pop_change n r ∷ [] | g ∷ gs ↦ [] ]) → IsHigh s low c) [
        | [] ↦ λ none here. elim here [ inl same ↦ subst P same (record { fits = (of none).0; below = (of none).1 }) | inr g ↦ absurd g ]
        | g ∷ gs ↦ λ none here. absurd here
      ] refl h

  pops_high : (n : ℕ) (rs : List (Rule S W Map)) → ((k : ℕ) (r : Rule S W Map) → slice_get rs k ≡ Some r → r.right ≡ [] → Fits s r.weight × Below s (low (head_place r)) r.weight)
      → (c : Change W) → IsIn c (pops_from n rs) → IsHigh s low c
  pops_high n [] each c h = absurd h
  pops_high n (r ∷ rs) each c h = elim (in_append c (pops_of n r) (pops_from (suc n) rs) h) [
    | inl here ↦ pop_high n r (λ none. each zero r refl none) c here
    | inr rest ↦ pops_high (suc n) rs (λ k q there none. each (suc k) q there none) c rest
  ]

  -- what is below one at the edges and below each pop rule's weight at its place is below the weights that the opening has
  pub opening_above : (p : Pushdown S W Map) (edges : List Place) → ((x : Place) → IsIn x edges → Below s (low x) s.one)
      → ((k : ℕ) (r : Rule S W Map) → slice_get p.rules k ≡ Some r → r.right ≡ [] → Fits s r.weight × Below s (low (head_place r)) r.weight) → IsAbove s low (opening_state s Pre p edges)
  opening_above p edges ones pops =
      let first : IsAbove s low (bare s) = record { fits = λ x. laws.fits-zero; below = λ x. below_zero laws (low x) (fit x) } in
      all_above (pops_from 0 p.rules) (with_edges s edges (bare s)) (edges_above edges (bare s) first ones) (pops_high 0 p.rules pops)
