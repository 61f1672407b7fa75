-- What was settled stays settled while weights fall, and a place that has given all it gives is settled too.
use Rattle.std.proofs.Common.{◌≡◌, ◌≢◌, ◌⊎◌, inl, inr, ℕ, true, List, [], ◌∷◌, refl, sym, ap, ◌∙◌, subst}
use Rattle.std.specs.Prelude.{Some, slice_get, unwrap_or}
use Rattle.semiring_laws.specs.Semiring.{Operations, IsSemiring, Fits, Below}
use Rattle.semiring_laws.proofs.CallerLemmas.{below_itself, below_trans, below_zero}
use Rattle.weighted_automata.specs.declared.place.Label.TheVariants.{Symbol, Empty}
use Rattle.weighted_automata.specs.declared.place.Place.{Place}
use Rattle.weighted_automata.proofs.CallerLemmas.{same_place_is, same_place_itself}
use Rattle.weighted_automata.specs.Places.{same_place}
use Rattle.std.proofs.lemmas.Bool.{cases_Bool}
use Rattle.pushdown_rules.specs.declared.rule.Rule.{Rule}
use Rattle.pushdown_rules.specs.Pushdown.{Pushdown, IsSystem}
use Rattle.pushdown_rules.proofs.CallerLemmas.{weight_fits, map_fits}
use Rattle.config_patterns.specs.declared.edge.Edge.{Edge}
use Rattle.forward_value_laws.specs.Settling.{call_weight}
use Rattle.forward_value_search.specs.Places.{arrow, short_label}
use Rattle.forward_value_search.specs.Settled.{head_at, GivesRule, IsSettled, Gives, IsFurther, AreWeights}

pub place_or : (x y : Place) → (x ≡ y) ⊎ (x ≡ y → ⊥)
place_or x y = elim (cases_Bool (same_place x y)) [
  | inl is ↦ inl (same_place_is x y is)
  | inr other ↦ inr (λ e. let P : Place → Type 0 = λ z. same_place x z ≡ true in let is : same_place x y ≡ true = subst P e (same_place_itself x) in cc)
]

module _ {W Map : Type 0} {s : Operations W Map} (laws : IsSemiring s) where
  pub further_itself : (weight settled : Place → W) → AreWeights s weight → IsFurther s weight settled weight settled
  further_itself weight settled fit = record { falls = λ x. below_itself laws (weight x) (fit x); counts = λ x. inl refl }

  pub further_then : (a b a' b' a'' b'' : Place → W) → AreWeights s a → AreWeights s a' → AreWeights s a'' → IsFurther s a b a' b' → IsFurther s a' b' a'' b'' → IsFurther s a b a'' b''
  further_then a b a' b' a'' b'' fa fa' fa'' one two = record {
    falls = λ x. below_trans laws (a'' x) (a' x) (a x) (fa'' x) (fa' x) (fa x) (two.falls x) (one.falls x);
    counts = λ x. elim (two.counts x) [
      | inl same ↦ elim (one.counts x) [ inl first ↦ inl (same ∙ first) | inr none ↦ inr (same ∙ none) ]
      | inr none ↦ inr none
    ];
  }

module _ {S W Map : Type 0} {operations : S → Operations W Map} {p : Pushdown S W Map} (valid : IsSystem operations p) (laws : IsSemiring (operations p.semiring)) where
  abbrev of_p : Operations W Map
  of_p = operations p.semiring

  -- what a call is worth fits, and is nothing where its end is nothing
  pub call_fits : (k : ℕ) (r : Rule S W Map) → slice_get p.rules k ≡ Some r → (a b : ℕ) → r.right ≡ a ∷ b ∷ [] → (w : W) → Fits of_p w → Fits of_p (call_weight of_p r w)
  call_fits k r there a b right w f = laws.fits-after (unwrap_or r.map of_p.plain) (of_p.extend r.weight w) (map_fits valid laws k r there a b right) (laws.fits-extend r.weight w (weight_fits valid laws k r there) f)

  pub call_zero : (k : ℕ) (r : Rule S W Map) → slice_get p.rules k ≡ Some r → (a b : ℕ) → r.right ≡ a ∷ b ∷ [] → call_weight of_p r of_p.zero ≡ of_p.zero
  call_zero k r there a b right =
      ap (of_p.after (unwrap_or r.map of_p.plain)) (laws.extend-zero_right r.weight (weight_fits valid laws k r there)) ∙ laws.after-zero (unwrap_or r.map of_p.plain) (map_fits valid laws k r there a b right)

module _ {S W Map : Type 0} {operations : S → Operations W Map} {p : Pushdown S W Map} (valid : IsSystem operations p) (laws : IsSemiring (operations p.semiring)) (items start : ℕ) (edges : List Edge)
    (weight settled weight' settled' : Place → W) (fw : AreWeights (operations p.semiring) weight) (fs : AreWeights (operations p.semiring) settled) (fw' : AreWeights (operations p.semiring) weight')
    (fs' : AreWeights (operations p.semiring) settled') (falls : (x : Place) → Below (operations p.semiring) (weight' x) (weight x)) where
  abbrev s : Operations W Map
  s = operations p.semiring

  -- an input counts as before or for nothing
  abbrev Counts : Place → Type 0
  Counts y = (settled' y ≡ settled y) ⊎ (settled' y ≡ s.zero)

  goal_falls : (goal : Place) (v : W) → Fits s v → Below s (weight goal) v → Below s (weight' goal) v
  goal_falls goal v fv below = below_trans laws (weight' goal) (weight goal) v (fw' goal) (fw goal) fv (falls goal) below

  one_kept : (goal x : Place) (F : W → W) → F s.zero ≡ s.zero → ((w : W) → Fits s w → Fits s (F w)) → Counts x → Below s (weight goal) (F (settled x)) → Below s (weight' goal) (F (settled' x))
  one_kept goal x F strict fits counts below = elim counts [
    | inl same ↦ let P : W → Type 0 = λ v. Below s (weight' goal) (F v) in subst P (sym same) (goal_falls goal (F (settled x)) (fits (settled x) (fs x)) below)
    | inr none ↦ let P : W → Type 0 = Below s (weight' goal) in subst P (sym (ap F none ∙ strict)) (below_zero laws (weight' goal) (fw' goal))
  ]

  pub read_kept : (goal x : Place) → Counts x → Below s (weight goal) (settled x) → Below s (weight' goal) (settled' x)
  read_kept goal x counts below = one_kept goal x (λ w. w) refl (λ w f. f) counts below

  module _ (k : ℕ) (r : Rule S W Map) (there : slice_get p.rules k ≡ Some r) where
    fr : Fits s r.weight
    fr = weight_fits valid laws k r there

    pub step_kept : (goal x : Place) → Counts x → Below s (weight goal) (s.extend (settled x) r.weight) → Below s (weight' goal) (s.extend (settled' x) r.weight)
    step_kept goal x counts below = one_kept goal x (λ w. s.extend w r.weight) (laws.extend-zero_left r.weight fr) (λ w f. laws.fits-extend w r.weight f fr) counts below

    pub enter_kept : (goal x : Place) → Counts x → (settled x ≢ s.zero → Below s (weight goal) s.one) → settled' x ≢ s.zero → Below s (weight' goal) s.one
    enter_kept goal x counts below some = elim counts [
      | inl same ↦ goal_falls goal s.one laws.fits-one (below (λ z. some (same ∙ z)))
      | inr none ↦ absurd (some none)
    ]

    pub return_kept : (a b : ℕ) → r.right ≡ a ∷ b ∷ [] → (goal x y : Place) → Counts x → Counts y → Below s (weight goal) (s.extend (settled x) (call_weight s r (settled y)))
        → Below s (weight' goal) (s.extend (settled' x) (call_weight s r (settled' y)))
    return_kept a b right goal x y first second below =
        let fy = call_fits valid laws k r there a b right (settled' y) (fs' y) in
        elim second [
          | inl same ↦
              let P : W → Type 0 = λ v. Below s (weight' goal) (s.extend (settled' x) (call_weight s r v)) in
              let fc = call_fits valid laws k r there a b right (settled y) (fs y) in
              subst P (sym same) (one_kept goal x (λ w. s.extend w (call_weight s r (settled y))) (laws.extend-zero_left (call_weight s r (settled y)) fc)
              (λ w f. laws.fits-extend w (call_weight s r (settled y)) f fc) first below)
          | inr none ↦
              let P : W → Type 0 = Below s (weight' goal) in
              let dead : s.extend (settled' x) (call_weight s r (settled' y)) ≡ s.zero =
              ap (λ v. s.extend (settled' x) (call_weight s r v)) none ∙ ap (s.extend (settled' x)) (call_zero valid laws k r there a b right) ∙ laws.extend-zero_right (settled' x) (fs' x) in
              subst P (sym dead) (below_zero laws (weight' goal) (fw' goal))
        ]

    -- what a rule gave is there still
    pub rule_kept : (n : ℕ) → Counts (head_at r n) → ((q m : ℕ) → Counts (arrow q Empty m)) → GivesRule s p items start edges weight settled r n → GivesRule s p items start edges weight' settled' r n
    rule_kept n head ends gives = record {
      steps = λ few. step_kept (arrow r.to (short_label r.right) n) (head_at r n) head (gives.steps few);
      enters = λ a b right m number some. enter_kept (arrow r.to (Symbol a) m) (head_at r n) head (gives.enters a b right m number) some;
      returns = λ a b right m number q. return_kept a b right (arrow q (Symbol b) n) (head_at r n) (arrow q Empty m) head (ends q m) (gives.returns a b right m number q);
    }

  -- a place that was taken, once all it gives is there, is settled
  pub taken_settled : (x : Place) → ((y : Place) → (x ≡ y → ⊥) → Counts y) → IsSettled s p items start edges weight settled → Gives s p items start edges weight' settled' x
      → IsSettled s p items start edges weight' settled'
  taken_settled x counts is gives = record {
    starts = goal_falls (arrow start Empty 0) s.one laws.fits-one is.starts;
    reads = λ q i g j edge. elim (place_or x (arrow q Empty i)) [
      | inl here ↦ let P : Place → Type 0 = λ y. Below s (weight' (arrow q (Symbol g) j)) (settled' y) in subst P here (gives.reads q i g j here edge)
      | inr other ↦ read_kept (arrow q (Symbol g) j) (arrow q Empty i) (counts (arrow q Empty i) other) (is.reads q i g j edge)
    ];
    rules = λ k r there n. elim (place_or x (head_at r n)) [
      | inl here ↦ gives.rules k r there n here
      | inr other ↦
          let before = is.rules k r there n in
          let head = counts (head_at r n) other in
          record {
            steps = λ few. step_kept k r there (arrow r.to (short_label r.right) n) (head_at r n) head (before.steps few);
            enters = λ a b right m number some. enter_kept k r there (arrow r.to (Symbol a) m) (head_at r n) head (before.enters a b right m number) some;
            returns = λ a b right m number q. elim (place_or x (arrow q Empty m)) [
              | inl end ↦
                  let P : Place → Type 0 = λ y. Below s (weight' (arrow q (Symbol b) n)) (s.extend (settled' (head_at r n)) (call_weight s r (settled' y))) in
                  subst P end (gives.ends k r there a b right m number q end n)
              | inr apart ↦ return_kept k r there a b right (arrow q (Symbol b) n) (head_at r n) (arrow q Empty m) head (counts (arrow q Empty m) apart) (before.returns a b right m number q)
            ];
          }
    ];
  }
