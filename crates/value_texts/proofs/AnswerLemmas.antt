-- What an answer has of the values of runs.
use Rattle.std.proofs.Common.{◌≡◌, ◌≢◌, ◌↔◌, ℕ, Bool, false, ◌||◌, List, [], ◌∷◌, map, refl, sym, ap, subst, ◌∙◌, inl, inr}
use Rattle.std.specs.Prelude.{◌⊎◌, IsTrue}
use Rattle.std.specs.List.{AllByRecursion}
use Rattle.std.proofs.lemmas.Bool.{cases_Bool, or_cases, or_right, true≢false}
use Rattle.semiring_laws.specs.Semiring.{Operations, IsSemiring, Fits}
use Rattle.semiring_laws.specs.Combination.{combination}
use Rattle.semiring_laws.proofs.CallerLemmas.{fits, zero_below}
use Rattle.pushdown_rules.specs.Configuration.{Configuration}
use Rattle.pushdown_rules.specs.Pushdown.{Pushdown, IsSystem}
use Rattle.pushdown_rules.specs.Values.{value_of}
use Rattle.pushdown_rules.specs.Answers.{Answers, Leads, HasFeasibleRun, HasNoFeasibleRun}
use Rattle.pushdown_rules.proofs.CallerLemmas.{value_fits}

module _ {S W Map : Type 0} {operations : S → Operations W Map} {p : Pushdown S W Map} (valid : IsSystem operations p) (laws : IsSemiring (operations p.semiring)) where
  abbrev s : Operations W Map
  s = operations p.semiring

  abbrev value : List ℕ → W
  value = value_of s p

  pub values_fit : (runs : List (List ℕ)) → AllByRecursion (Fits s) (map value runs)
  values_fit [] = tt
  values_fit (run ∷ runs) = (value_fits valid laws run, values_fit runs)

  pub combination_fits : (runs : List (List ℕ)) → Fits s (combination s (map value runs))
  combination_fits runs = fits laws (map value runs) (values_fit runs)

  pub answer_fits : (from to : Configuration → Bool) (v : W) (runs : List (List ℕ)) → Answers s p from to v runs → Fits s v
  answer_fits from to v runs answer = subst (Fits s) (sym answer.combined) (combination_fits runs)

  module _ (from to : Configuration → Bool) (v : W) (runs : List (List ℕ)) (answer : Answers s p from to v runs) where
    -- where an answer is zero, so is the value of each run
    pub none_where_zero : v ≡ s.zero → HasNoFeasibleRun s p from to
    none_where_zero zero run leads =
        zero_below laws (value run) (value_fits valid laws run) (ap (λ w. s.combine w (value run)) (sym zero) ∙ answer.below run leads ∙ zero)

    -- some run of a list is feasible, or they combine to zero
    some_or_zero : (xs : List (List ℕ)) → AllByRecursion (Leads s p from to) xs → HasFeasibleRun s p from to ⊎ (combination s (map value xs) ≡ s.zero)
    some_or_zero [] lead = inr refl
    some_or_zero (run ∷ xs) lead =
        let w = value run in
        let rest = combination s (map value xs) in
        let decides = laws.same_is_equal w s.zero (value_fits valid laws run) laws.fits-zero in
        elim (cases_Bool (s.same w s.zero)) [
          | inl is ↦ elim (some_or_zero xs lead.1) [
            | inl some ↦ inl some
            | inr none ↦ inr (ap (λ u. s.combine u rest) (decides.0 is) ∙ laws.combine_zero rest (combination_fits xs) ∙ none)
          ]
          | inr other ↦ inl (run, lead.0, λ zero. true≢false (sym (decides.1 zero) ∙ other))
        ]

    pub some_where_not_zero : v ≢ s.zero → HasFeasibleRun s p from to
    some_where_not_zero nonzero = elim (some_or_zero runs answer.lead) [
      | inl some ↦ some
      | inr none ↦ absurd (nonzero (answer.combined ∙ none))
    ]

    pub not_zero_where_some : HasFeasibleRun s p from to → v ≢ s.zero
    not_zero_where_some some zero = some.2 (none_where_zero zero some.0 some.1)

  -- a test that fails of zero, and holds of a combine where it holds of either weight
  module _ (test : W → Bool) (none : test s.zero ≡ false) (of_either : (a b : W) → Fits s a → Fits s b → test (s.combine a b) ≡ (test a || test b)) (from to : Configuration → Bool) where
    abbrev SomePasses : Type 0
    SomePasses = (run : List ℕ) × Leads s p from to run × IsTrue (test (value run))

    some_passes : (runs : List (List ℕ)) → AllByRecursion (Leads s p from to) runs → IsTrue (test (combination s (map value runs))) → SomePasses
    some_passes [] lead passes = absurd (true≢false (sym passes ∙ none))
    some_passes (run ∷ runs) lead passes =
        let rest = combination s (map value runs) in
        elim (or_cases (test (value run)) (test rest) (sym (of_either (value run) rest (value_fits valid laws run) (combination_fits runs)) ∙ passes)) [
          | inl here ↦ (run, lead.0, here)
          | inr later ↦ some_passes runs lead.1 later
        ]

    -- it holds of an answer exactly where it holds of the value of some run
    pub holds_by_some : (v : W) (runs : List (List ℕ)) → Answers s p from to v runs → IsTrue (test v) ↔ SomePasses
    holds_by_some v runs answer = (
      λ passes. some_passes runs answer.lead (ap test (sym answer.combined) ∙ passes),
      λ one.
          let w = value one.0 in
          ap test (sym (answer.below one.0 one.1)) ∙ of_either v w (answer_fits from to v runs answer) (value_fits valid laws one.0) ∙ or_right (test v) (test w) one.2,
    )
