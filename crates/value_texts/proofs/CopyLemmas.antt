-- What an answer over copies and constants tells of runs.
use Rattle.std.proofs.Common.{◌≡◌, ◌≢◌, ℕ, ◌<◌, ℤ, Bool, List, [], ◌∷◌, map, refl, sym, ap, subst, ◌∙◌, inl, inr}
use Rattle.std.specs.List.{AllByRecursion}
use Rattle.std.specs.Ordering.{int_eq}
use Rattle.std.proofs.lemmas.Bool.{cond-true, cond-false}
use Rattle.semiring_laws.specs.Semiring.{Operations, Fits}
use Rattle.semiring_laws.specs.Combination.{combination}
use Rattle.copy_weights.specs.declared.form.CopyW.{CopyW}
use Rattle.copy_weights.specs.declared.form.CopyW.TheVariants.{Zero, Map}
use Rattle.copy_weights.specs.declared.form.CopyMap.{CopyMap}
use Rattle.copy_weights.specs.CopyConst.{copy_operations}
use Rattle.copy_weights.specs.CopyLaws.{copy_laws}
use Rattle.copy_weights.specs.Values.{Known, either, values}
use Rattle.copy_weights.specs.Values.Known.{Undefined, Number, Varies}
use Rattle.copy_weights.specs.private.FormLaws.{int_itself, int_apart, int_cases}
use Rattle.pushdown_rules.specs.Configuration.{Configuration}
use Rattle.pushdown_rules.specs.Pushdown.{Pushdown, IsSystem}
use Rattle.pushdown_rules.specs.Values.{value_of}
use Rattle.pushdown_rules.specs.Answers.{Answers, Leads}
use Rattle.document_systems.specs.CopyWeights.{copy_text}
use Rattle.value_texts.specs.Telling.{IsBelow, IsMeetOfRuns, TellsConstants}
use Rattle.value_texts.proofs.AnswerLemmas.{answer_fits, none_where_zero, some_where_not_zero}

-- ---- what lies below two things that are known lies below either

below_undefined : (u : Known) → IsBelow u Undefined
below_undefined Undefined = refl
below_undefined (Number x) = refl
below_undefined Varies = refl

pub one_number : (x y : ℤ) → IsBelow (Number x) (Number y) → x ≡ y
one_number x y low = elim (int_cases x y) [
  | inl is ↦ is
  | inr apart ↦ (let e : Varies ≡ Number x = sym (cond-false (int_eq x y) (Number x) Varies (int_apart x y apart)) ∙ low in cc)
]

below_either : (u v w : Known) → IsBelow u v → IsBelow u w → IsBelow u (either v w)
below_either Undefined v w low low' = ap (λ x. either x w) low ∙ low'
below_either (Number x) Undefined w low low' = low'
below_either (Number x) (Number y) Undefined low low' = low
below_either (Number x) (Number y) (Number z) low low' =
    ap (either (Number x)) (cond-true (int_eq y z) (Number y) Varies (int_itself y z (sym (one_number x y low) ∙ one_number x z low'))) ∙ low
below_either (Number x) (Number y) Varies low low' = cc
below_either (Number x) Varies w low low' = cc
below_either Varies v w low low' = refl

-- ---- answers

-- a combine leaves what either leaves
abbrev pub CombinesValues : Type 0
CombinesValues =
    (n : ℕ) (a b : CopyW) (old : ℕ → Known) (k : ℕ) → k < n → values n ((copy_operations n).combine a b) old k ≡ either (values n a old k) (values n b old k)

module _ (combines : CombinesValues) (p : Pushdown ℕ CopyW CopyMap) (from to : Configuration → Bool) where
  abbrev s : Operations CopyW CopyMap
  s = copy_operations p.semiring

  abbrev left : CopyW → (ℕ → Known) → ℕ → Known
  left w old k = values p.semiring w old k

  module _ (old : ℕ → Known) (k : ℕ) (within : k < p.semiring) where
    below_all : (u : Known) → ((run : List ℕ) → Leads s p from to run → IsBelow u (left (value_of s p run) old k)) → (runs : List (List ℕ)) → AllByRecursion (Leads s p from to) runs
        → IsBelow u (left (combination s (map (value_of s p) runs)) old k)
    below_all u low [] lead = below_undefined u
    below_all u low (run ∷ runs) lead =
        let w = value_of s p run in
        let rest = combination s (map (value_of s p) runs) in
        ap (either u) (combines p.semiring w rest old k within)
        ∙ below_either u (left w old k) (left rest old k) (low run lead.0) (below_all u low runs lead.1)

    -- what an answer leaves is the meet of what the runs leave
    pub leaves_meet : (v : CopyW) (runs : List (List ℕ)) → Answers s p from to v runs → IsMeetOfRuns p from to old k (left v old k)
    leaves_meet v runs answer = record {
      below = λ run lead. sym (combines p.semiring v (value_of s p run) old k within) ∙ ap (λ u. left u old k) (answer.below run lead);
      greatest = λ u low. ap (λ w. either u (left w old k)) answer.combined ∙ below_all u low runs answer.lead;
    }

  pub constants_told : IsSystem copy_operations p → (v : CopyW) (runs : List (List ℕ)) → Answers s p from to v runs → (variables : List (List ℕ)) → TellsConstants p from to variables (copy_text variables v)
  constants_told valid v runs answer variables = elim v as (λ w. v ≡ w → TellsConstants p from to variables (copy_text variables w)) [
    | Zero ↦ λ is. inl (none_where_zero valid (copy_laws p.semiring) from to v runs answer is, refl)
    | Map forms ↦ λ is.
        let nonzero : v ≢ Zero = λ zero. (let e : ◌≡◌ {A = CopyW} (Map forms) Zero = sym is ∙ zero in cc) in
        inr (
          some_where_not_zero valid (copy_laws p.semiring) from to v runs answer nonzero,
          record {
            forms = forms;
            fits = subst (Fits s) is (answer_fits valid (copy_laws p.semiring) from to v runs answer);
            meets = λ old k within. subst (λ w. IsMeetOfRuns p from to old k (left w old k)) is (leaves_meet old k within v runs answer);
            written = refl;
          },
        )
  ] refl
