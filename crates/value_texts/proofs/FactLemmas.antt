-- What an answer over facts tells of runs.
use Rattle.std.proofs.Common.{◌≡◌, ◌≢◌, ◌↔◌, ℕ, Bool, List, [], ◌∷◌, map, refl, sym, ap, subst, ◌∙◌, inl, inr}
use Rattle.std.specs.Prelude.{◌⊎◌, IsTrue}
use Rattle.std.specs.List.{AllByRecursion}
use Rattle.std.proofs.lemmas.Bool.{and_parts, and_from}
use Rattle.semiring_laws.specs.Semiring.{Fits}
use Rattle.semiring_laws.specs.Combination.{combination}
use Rattle.genkill_weights.specs.declared.genkill.GenKill.{GenKill}
use Rattle.genkill_weights.specs.declared.weight.GenKillW.{GenKillW}
use Rattle.genkill_weights.specs.declared.weight.GenKillW.TheVariants.{Zero, Map}
use Rattle.genkill_weights.specs.declared.weight.MaskMap.{MaskMap}
use Rattle.genkill_weights.specs.Effects.{generates, kills}
use Rattle.genkill_weights.specs.GenKill.{genkill_operations}
use Rattle.genkill_weights.specs.GenKillLaws.{genkill_laws}
use Rattle.genkill_weights.proofs.CallerLemmas.{generates_combine, kills_combine}
use Rattle.pushdown_rules.specs.Configuration.{Configuration}
use Rattle.pushdown_rules.specs.Pushdown.{Pushdown, IsSystem}
use Rattle.pushdown_rules.specs.Values.{value_of}
use Rattle.pushdown_rules.specs.Answers.{Answers, Leads, HasFeasibleRun, HasNoFeasibleRun}
use Rattle.pushdown_rules.proofs.CallerLemmas.{value_fits}
use Rattle.document_forms.specs.Writing.{spaced}
use Rattle.document_systems.specs.FactWeights.{effect_words, genkill_text}
use Rattle.value_texts.specs.Telling.{IsGenerated, IsKilled, TellsFacts}
use Rattle.value_texts.proofs.AnswerLemmas.{combination_fits, answer_fits, none_where_zero, not_zero_where_some, some_where_not_zero, holds_by_some}

zero_or_not : (n : ℕ) (w : GenKillW n) → (w ≡ Zero) ⊎ (w ≢ Zero)
zero_or_not n Zero = inl refl
zero_or_not n (Map k g) = inr (λ e. cc)

united_with_zero : (n : ℕ) (w : GenKillW n) → (genkill_operations n).combine w Zero ≡ w
united_with_zero n Zero = refl
united_with_zero n (Map k g) = refl

kills_some : (n : ℕ) (w : GenKillW n) (f : ℕ) → IsTrue (kills n w f) → w ≢ Zero
kills_some n Zero f h = cc
kills_some n (Map k g) f h = λ e. cc

module _ (n : ℕ) (p : Pushdown (GenKill n) (GenKillW n) (MaskMap n)) (valid : IsSystem (λ _. genkill_operations n) p) (from to : Configuration → Bool) where
  abbrev value : List ℕ → GenKillW n
  value = value_of (genkill_operations n) p

  fits : (run : List ℕ) → Fits (genkill_operations n) (value run)
  fits = value_fits valid (genkill_laws n)

  all_fit : (runs : List (List ℕ)) → Fits (genkill_operations n) (combination (genkill_operations n) (map value runs))
  all_fit = combination_fits valid (genkill_laws n)

  pub generated_by_some : (f : ℕ) (v : GenKillW n) (runs : List (List ℕ)) → Answers (genkill_operations n) p from to v runs → IsTrue (generates n v f) ↔ IsGenerated n p from to f
  generated_by_some f v runs answer =
      holds_by_some valid (genkill_laws n) (λ w. generates n w f) refl (λ a b fa fb. generates_combine n a b fa fb f) from to v runs answer

  -- where each feasible run kills the fact, so do finitely many together, unless none is feasible
  killed_by_all : (f : ℕ) → IsKilled n p from to f → (runs : List (List ℕ)) → AllByRecursion (Leads (genkill_operations n) p from to) runs
      → (combination (genkill_operations n) (map value runs) ≡ Zero) ⊎ IsTrue (kills n (combination (genkill_operations n) (map value runs)) f)
  killed_by_all f each [] lead = inl refl
  killed_by_all f each (run ∷ runs) lead =
      let w = value run in
      let rest = combination (genkill_operations n) (map value runs) in
      let P : GenKillW n → Type 0 = λ v. (v ≡ Zero) ⊎ IsTrue (kills n v f) in
      elim (zero_or_not n w) [
        | inl none ↦ subst P (ap (λ v. (genkill_operations n).combine v rest) (sym none)) (killed_by_all f each runs lead.1)
        | inr some ↦
            let here = each run lead.0 some in
            elim (killed_by_all f each runs lead.1) [
              | inl none ↦ inr (ap (λ v. kills n v f) (ap ((genkill_operations n).combine w) none ∙ united_with_zero n w) ∙ here)
              | inr later ↦
                  inr (kills_combine n w rest (fits run) (all_fit runs) some (kills_some n rest f later) f
                  ∙ and_from (kills n w f) (kills n rest f) here later)
            ]
      ]

  module _ (v : GenKillW n) (runs : List (List ℕ)) (answer : Answers (genkill_operations n) p from to v runs) where
    pub each_kills : (f : ℕ) → IsTrue (kills n v f) → IsKilled n p from to f
    each_kills f killed run lead some =
        let w = value run in
        let fit = answer_fits valid (genkill_laws n) from to v runs answer in
        (and_parts (kills n v f) (kills n w f)
        (sym (kills_combine n v w fit (fits run) (kills_some n v f killed) some f) ∙ ap (λ u. kills n u f) (answer.below run lead) ∙ killed)).1

    pub killed_by_each : (f : ℕ) → v ≢ Zero → IsKilled n p from to f → IsTrue (kills n v f)
    killed_by_each f some each = elim (killed_by_all f each runs answer.lead) [
      | inl none ↦ absurd (some (answer.combined ∙ none))
      | inr killed ↦ ap (λ w. kills n w f) answer.combined ∙ killed
    ]

    abbrev none : v ≡ Zero → HasNoFeasibleRun (genkill_operations n) p from to
    none = none_where_zero valid (genkill_laws n) from to v runs answer

    abbrev some : v ≢ Zero → HasFeasibleRun (genkill_operations n) p from to
    some = some_where_not_zero valid (genkill_laws n) from to v runs answer

    -- the answer kills what each feasible run kills, where there is one
    pub killed_by_runs : (f : ℕ) → IsTrue (kills n v f) ↔ (HasFeasibleRun (genkill_operations n) p from to × IsKilled n p from to f)
    killed_by_runs f = (
      λ killed. (some (kills_some n v f killed), each_kills f killed),
      λ each. killed_by_each f (not_zero_where_some valid (genkill_laws n) from to v runs answer each.0) each.1,
    )

    pub facts_told : (facts : List (List ℕ)) → TellsFacts n p from to facts (genkill_text n facts v)
    facts_told facts = elim v as (λ w. v ≡ w → TellsFacts n p from to facts (genkill_text n facts w)) [
      | Zero ↦ λ is. inl (none is, refl)
      | Map k g ↦ λ is.
          let nonzero : v ≢ Zero = λ zero. (let e : ◌≡◌ {A = GenKillW n} (Map k g) Zero = sym is ∙ zero in cc) in
          inr (
            some nonzero,
            record {
              generated = generates n v;
              killed = kills n v;
              by_some = λ f. generated_by_some f v runs answer;
              by_each = λ f. (each_kills f, killed_by_each f nonzero);
              written = ap (λ w. spaced (effect_words n facts w)) (sym is);
            },
          )
    ] refl
