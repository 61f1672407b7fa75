-- What lies below the opening's weights lies below one at its edges, and below the rule's weight where a pop rule opens a place.
use Rattle.std.proofs.Common.{◌≡◌, ◌⊎◌, inl, inr, ℕ, suc, zero, ◌+◌, List, [], ◌∷◌, ◌++◌, refl, sym, ap, ◌∙◌, subst, arith}
use Rattle.std.specs.Prelude.{Option, None, Some, IsSome, slice_get}
use Rattle.std.proofs.lemmas.Bool.{cond_both}
use Rattle.std.proofs.lemmas.Option.{same_Some}
use Rattle.semiring_laws.specs.Semiring.{Operations, IsSemiring, Fits, Below}
use Rattle.weighted_automata.specs.declared.place.Place.{Place}
use Rattle.weighted_automata.specs.declared.transitions.Entry.{Entry}
use Rattle.weighted_automata.specs.Places.{same_place}
use Rattle.weighted_automata.specs.Entries.{entry_at}
use Rattle.weighted_automata.proofs.CallerLemmas.{cases_place, entry_at-place, entry_at-lowered_same, entry_at-lowered_other}
use Rattle.witness_graph.specs.declared.node.Side.TheVariants.{Pre}
use Rattle.pushdown_rules.specs.declared.rule.Rule.{Rule}
use Rattle.pushdown_rules.specs.Pushdown.{Pushdown}
use Rattle.wpds_base.specs.Lists.{IsIn}
use Rattle.saturation_laws.specs.States.{CoreState, Change, weight_of, weight_at, lower_state, apply, apply_all}
use Rattle.saturation_laws.specs.Openings.{head_place, pop_change, pops_of, pops_from, with_edge, with_edges, bare, opening_state}
use Rattle.saturation_laws.proofs.QueueLemmas.{in_left, in_append}
use Rattle.semiring_laws.proofs.CallerLemmas.{below_itself, combine_below_left as below_left, combine_below_right as below_right, below_trans, below_zero, zero_below}

pub in_right : {X : Type 0} (x : X) (xs ys : List X) → IsIn x ys → IsIn x (xs ++ ys)
in_right x [] ys h = h
in_right x (z ∷ xs) ys h = inr (in_right x xs ys h)

module _ {S W Map : Type 0} where
  pub entry_in : (x : Place) (ts : List (Entry S W Map)) (t : Entry S W Map) → entry_at x ts ≡ Some t → IsIn t ts
  entry_in x [] t e = cc
  entry_in x (u ∷ ts) t e =
      let P : Option (Entry S W Map) → Type 0 = λ o. o ≡ Some t → IsIn t (u ∷ ts) in
      cond_both (same_place u.place x) (Some u) (entry_at x ts) P (λ h g. inl (same_Some u t g)) (λ h g. inr (entry_in x ts t g)) e

  pop_there : (n : ℕ) (r : Rule S W Map) → r.right ≡ [] → IsIn (pop_change n r) (pops_of n r)
  pop_there n r none = let P : List ℕ → Type 0 = λ w. IsIn (pop_change n r) (elim w [ [] ↦ pop_change n r ∷ [] | g ∷ gs ↦ [] ]) in subst P (sym none) (inl refl)

  pops_there : (n k : ℕ) (rs : List (Rule S W Map)) (r : Rule S W Map) → slice_get rs k ≡ Some r → r.right ≡ [] → IsIn (pop_change (n + k) r) (pops_from n rs)
  pops_there n k [] r e none = cc
  pops_there n zero (q ∷ rs) r e none =
      let same : q ≡ r = same_Some q r e in
      let P : Rule S W Map → Type 0 = λ u. IsIn (pop_change n r) (pops_of n u) in
      let Q : ℕ → Type 0 = λ m. IsIn (pop_change m r) (pops_from n (q ∷ rs)) in
      let h : n ≡ n + 0 = omega arith in
      subst Q h (in_left (pop_change n r) (pops_of n q) (pops_from (suc n) rs) (subst P (sym same) (pop_there n r none)))
  pops_there n (suc k) (q ∷ rs) r e none =
      let Q : ℕ → Type 0 = λ m. IsIn (pop_change m r) (pops_from n (q ∷ rs)) in
      let h : suc n + k ≡ n + suc k = omega arith in
      subst Q h (in_right (pop_change (suc n + k) r) (pops_of n q) (pops_from (suc n) rs) (pops_there (suc n) k rs r e none))

module _ {S W Map : Type 0} (s : Operations W Map) where
  -- Each weight fits, and none rises.
  pub record Lowers (st new : CoreState S W Map) : Type 0 where
    pub fits : (x : Place) → Fits s (weight_at s x new.transitions)
    pub weights : (x : Place) → Below s (weight_at s x new.transitions) (weight_at s x st.transitions)

module _ {S W Map : Type 0} {s : Operations W Map} (laws : IsSemiring s) where
  apply_lowers : (c : Change W) (st : CoreState S W Map) → ((x : Place) → Fits s (weight_at s x st.transitions)) → Fits s c.weight
      → Lowers s st (apply s c st) × Below s (weight_at s c.goal (apply s c st).transitions) c.weight
  apply_lowers c st fit fc =
      let old = weight_at s c.goal st.transitions in
      let new = s.combine old c.weight in
      let after = lower_state s c new st in
      let fo = fit c.goal in
      let decides = laws.same_is_equal new old (laws.fits-combine old c.weight fo fc) fo in
      let at : weight_at s c.goal after.transitions ≡ new = ap (weight_of s) (entry_at-lowered_same c.goal new _ st.transitions) in
      let P : CoreState S W Map → Type 0 = λ n. Lowers s st n × Below s (weight_at s c.goal n.transitions) c.weight in
      let R : W → Type 0 = λ w. Below s w c.weight in
      cond_both (s.same new old) st after P
      (λ e. (record { fits = fit; weights = λ x. below_itself laws _ (fit x) }, decides.0 e))
      (λ e. (
        record {
          fits = λ x. elim (cases_place c.goal x) [
            | inl same ↦ let Q : W → Type 0 = Fits s in let T : Place → Type 0 = λ y. Fits s (weight_at s y after.transitions) in
                subst T same (subst Q (sym at) (laws.fits-combine old c.weight fo fc))
            | inr other ↦ let Q : W → Type 0 = Fits s in subst Q (sym (ap (weight_of s) (entry_at-lowered_other c.goal x new _ st.transitions other))) (fit x)
          ];
          weights = λ x. elim (cases_place c.goal x) [
            | inl same ↦ let Q : W → Type 0 = λ w. Below s w old in let T : Place → Type 0 = λ y. Below s (weight_at s y after.transitions) (weight_at s y st.transitions) in
                subst T same (subst Q (sym at) (below_left laws old c.weight fo fc))
            | inr other ↦ let Q : W → Type 0 = λ w. Below s w (weight_at s x st.transitions) in
                subst Q (sym (ap (weight_of s) (entry_at-lowered_other c.goal x new _ st.transitions other))) (below_itself laws _ (fit x))
          ];
        },
        subst R (sym at) (below_right laws old c.weight fo fc),
      ))

  all_lower : (cs : List (Change W)) (st : CoreState S W Map) → ((x : Place) → Fits s (weight_at s x st.transitions)) → ((c : Change W) → IsIn c cs → Fits s c.weight)
      → Lowers s st (apply_all s cs st) × ((c : Change W) → IsIn c cs → Below s (weight_at s c.goal (apply_all s cs st).transitions) c.weight)
  all_lower [] st fit each = (record { fits = fit; weights = λ x. below_itself laws _ (fit x) }, λ c h. absurd h)
  all_lower (c ∷ cs) st fit each =
      let one = apply_lowers c st fit (each c (inl refl)) in
      let mid = apply s c st in
      let rest = all_lower cs mid one.0.fits (λ e h. each e (inr h)) in
      let end = apply_all s cs mid in (
        record {
          fits = rest.0.fits;
          weights = λ x. below_trans laws _ _ _ (rest.0.fits x) (one.0.fits x) (fit x) (rest.0.weights x) (one.0.weights x);
        },
        λ e h. elim h [
          | inl same ↦ let P : Change W → Type 0 = λ i. Below s (weight_at s i.goal end.transitions) i.weight in
              subst P same (below_trans laws _ _ _ (rest.0.fits c.goal) (one.0.fits c.goal) (each c (inl refl)) (rest.0.weights c.goal) one.1)
          | inr there ↦ rest.1 e there
        ],
      )

  edge_weight : (x : Place) (st : CoreState S W Map) (y : Place)
      → ((x ≡ y) × (weight_at s y (with_edge s x st).transitions ≡ s.one)) ⊎ ((x ≡ y → ⊥) × (weight_at s y (with_edge s x st).transitions ≡ weight_at s y st.transitions))
  edge_weight x st y = elim (cases_place x y) [
    | inl same ↦ let P : Place → Type 0 = λ z. weight_at s z (with_edge s x st).transitions ≡ s.one in
        inl (same, subst P same (ap (weight_of s) (entry_at-lowered_same x s.one 0 st.transitions)))
    | inr other ↦ inr (other, ap (weight_of s) (entry_at-lowered_other x y s.one 0 st.transitions other))
  ]

  pub edges_fit : (xs : List Place) (st : CoreState S W Map) → ((x : Place) → Fits s (weight_at s x st.transitions)) → (x : Place) → Fits s (weight_at s x (with_edges s xs st).transitions)
  edges_fit [] st fit x = fit x
  edges_fit (y ∷ xs) st fit x = edges_fit xs (with_edge s y st) (λ z. let P : W → Type 0 = Fits s in elim (edge_weight y st z) [
    | inl e ↦ subst P (sym e.1) laws.fits-one
    | inr e ↦ subst P (sym e.1) (fit z)
  ]) x

  pub edges_one : (xs : List Place) (st : CoreState S W Map) (x : Place) → (weight_at s x st.transitions ≡ s.one) ⊎ IsIn x xs → weight_at s x (with_edges s xs st).transitions ≡ s.one
  edges_one [] st x (inl e) = e
  edges_one [] st x (inr h) = absurd h
  edges_one (y ∷ xs) st x known = edges_one xs (with_edge s y st) x (elim (edge_weight y st x) [
    | inl e ↦ inl e.1
    | inr e ↦ elim known [ inl was ↦ inl (e.1 ∙ was) | inr h ↦ elim h [ inl same ↦ absurd (e.0 same) | inr rest ↦ inr rest ] ]
  ])

  module _ (p : Pushdown S W Map) (rules : (k : ℕ) (r : Rule S W Map) → slice_get p.rules k ≡ Some r → Fits s r.weight) (edges : List Place) where
    abbrev opening : CoreState S W Map
    opening = opening_state s Pre p edges

    abbrev edged : CoreState S W Map
    edged = with_edges s edges (bare s)

    weight_in : (n : ℕ) (rs : List (Rule S W Map)) → ((k : ℕ) (r : Rule S W Map) → slice_get rs k ≡ Some r → Fits s r.weight) → (c : Change W) → IsIn c (pops_from n rs) → Fits s c.weight
    weight_in n [] each c h = absurd h
    weight_in n (r ∷ rs) each c h = elim (in_append c (pops_of n r) (pops_from (suc n) rs) h) [
      | inr rest ↦ weight_in (suc n) rs (λ k q e. each (suc k) q e) c rest
      | inl here ↦ elim r.right as (λ w. IsIn c (elim w [ [] ↦ pop_change n r ∷ [] | g ∷ gs ↦ [] ]) → Fits s c.weight) [
        | [] ↦ λ g. elim g [ inl e ↦ let P : Change W → Type 0 = λ i. Fits s i.weight in subst P e (each 0 r refl) | inr g' ↦ absurd g' ]
        | g ∷ gs ↦ λ g'. absurd g'
      ] here
    ]

    bare_fits : (x : Place) → Fits s (weight_at s x (bare {S = S} s).transitions)
    bare_fits x = laws.fits-zero

    opened_all : Lowers s edged opening × ((c : Change W) → IsIn c (pops_from 0 p.rules) → Below s (weight_at s c.goal opening.transitions) c.weight)
    opened_all = all_lower (pops_from 0 p.rules) edged (edges_fit edges (bare s) bare_fits) (weight_in 0 p.rules rules)

    pub opening_weights_fit : (x : Place) → Fits s (weight_at s x opening.transitions)
    opening_weights_fit = opened_all.0.fits

    pub opening_edges : (x : Place) → IsIn x edges → Below s (weight_at s x opening.transitions) s.one
    opening_edges x edge = let P : W → Type 0 = Below s (weight_at s x opening.transitions) in
        subst P (edges_one edges (bare s) x (inr edge)) (opened_all.0.weights x)

    pub opening_pops : (k : ℕ) (r : Rule S W Map) → slice_get p.rules k ≡ Some r → r.right ≡ [] → Below s (weight_at s (head_place r) opening.transitions) r.weight
    opening_pops k r there none = opened_all.1 (pop_change (0 + k) r) (pops_there 0 k p.rules r there none)

  -- what is below the opening's transitions is below what they are below
  pub opened_below : (opening ts : List (Entry S W Map)) → ((t : Entry S W Map) → IsIn t opening → IsSome (entry_at t.place ts) × Below s (weight_at s t.place ts) t.weight)
      → ((x : Place) → Fits s (weight_at s x opening)) → ((x : Place) → Fits s (weight_at s x ts)) → (x : Place) (v : W) → Fits s v → Below s (weight_at s x opening) v → Below s (weight_at s x ts) v
  opened_below opening ts opened fo ft x v fv below =
      elim (entry_at x opening) as (λ o. entry_at x opening ≡ o → Below s (weight_of s o) v → Fits s (weight_of s o) → Below s (weight_at s x ts) v) [
        | None ↦ λ e h f. let P : W → Type 0 = Below s (weight_at s x ts) in subst P (sym (zero_below laws v fv h)) (below_zero laws (weight_at s x ts) (ft x))
        | Some t ↦ λ e h f.
            let at : t.place ≡ x = entry_at-place x opening t e in
            let P : Place → Type 0 = λ y. Below s (weight_at s y ts) t.weight in
            below_trans laws (weight_at s x ts) t.weight v (ft x) f fv (subst P at (opened t (entry_in x opening t e)).1) h
      ] refl below (fo x)
