-- What a member that goes last does to rows by number.
use Rattle.std.proofs.Common.{◌≡◌, ℕ, ◌<◌, Bool, List, [], ◌∷◌, ◌++◌, length, set, sym, ap, ◌∙◌, inl, inr}
use Rattle.std.specs.Prelude.{Option, None, Some, cond, option_map}
use Rattle.std.specs.Ordering.{eq_by_cmp, nat_cmp}
use Rattle.std.specs.Cmp.{IsTotalOrder, eq_by_cmp_equiv, unsigned_tied}
use Rattle.std.proofs.lemmas.Bool.{cond-true, cond-false, cases_Bool, eqb-false}
use Rattle.key_rows.specs.KeyLaws.{same_numbers}
use Rattle.key_rows.specs.Numbers.{ends_at, AreLinkedNumbers}
use Rattle.key_rows.specs.Rows.{index_where, has_key, gap_to, gaps_of, ends_of}
use Rattle.key_rows.specs.declared.rows.Ends.{Ends}
use Rattle.key_rows.proofs.ChainLemmas.{get_set_same, get_set_other}
use Rattle.key_rows.proofs.RowLemmas.{first_of, gaps_push, ends_push, gap_to_ends, length-gaps, gaps-none, ends-none, first_is}

abbrev content : Option (Option Ends) → Option Ends
content o = elim o [ None ↦ None | Some c ↦ c ]

-- what is said of a number once that of one is another
ends_set : (es : List (Option Ends)) (q n : ℕ) (e : Option Ends) → q < length es → ends_at (set es q e) n ≡ cond (eq_by_cmp nat_cmp q n) e (ends_at es n)
ends_set es q n e within = elim (cases_Bool (eq_by_cmp nat_cmp q n)) [
  | inl here ↦
      ap (λ m. ends_at (set es q e) m) (sym (same_numbers q n here))
      ∙ ap content (get_set_same e es q within)
      ∙ sym (cond-true (eq_by_cmp nat_cmp q n) e (ends_at es n) here)
  | inr other ↦
      ap content (get_set_other e es q n (eqb-false q n (sym (unsigned_tied q n) ∙ other)))
      ∙ sym (cond-false (eq_by_cmp nat_cmp q n) e (ends_at es n) other)
]

module _ (total : IsTotalOrder nat_cmp) (ks : List (Option ℕ)) (q : ℕ) (es : List (Option Ends)) (gs : List ℕ) (before : AreLinkedNumbers ks es gs) (within : q < length es) where
  -- the rows once a member is added: what its row had first, and the distances
  pub numbers_push : (first last : ℕ) (found : Option Ends) (new : List (Option Ends)) (made : List ℕ)
      → last ≡ length gs → found ≡ ends_at es q → first ≡ first_of found last
      → new ≡ set es q (Some (record { first = first; last = last }))
      → made ≡ gap_to found last gs → AreLinkedNumbers (ks ++ Some q ∷ []) new (made ++ 0 ∷ [])
  numbers_push first last found new made number had begins sets gaps =
      let same : ℕ → ℕ → Bool = eq_by_cmp nat_cmp in
      let count : last ≡ length ks = number ∙ ap length before.gaps_are ∙ length-gaps same ks in
      let was : found ≡ ends_of same q ks = had ∙ before.ends_are q in
      record {
        ends_are = λ s. ap (λ xs. ends_at xs s) sets
            ∙ ends_set es q s (Some (record { first = first; last = last })) within
            ∙ ap (λ m. cond (same q s) (Some (record { first = m; last = last })) (ends_at es s)) (begins ∙ ap (λ o. first_of o last) was)
            ∙ ap (λ m. cond (same q s) (Some (record { first = first_of (ends_of same q ks) m; last = m })) (ends_at es s)) count
            ∙ ap (cond (same q s) (Some (record { first = first_of (ends_of same q ks) (length ks); last = length ks }))) (before.ends_are s)
            ∙ sym (ends_push same (eq_by_cmp_equiv total) q s ks);
        gaps_are = ap (λ xs. xs ++ 0 ∷ []) (gaps ∙ ap (λ o. gap_to o last gs) was ∙ ap (λ m. gap_to (ends_of same q ks) m gs) count ∙ ap (gap_to (ends_of same q ks) (length ks)) before.gaps_are ∙ gap_to_ends same q ks (gaps_of same ks))
            ∙ sym (gaps_push same (eq_by_cmp_equiv total) q ks);
      }

-- one without a number is in no row
pub numbers_none : (ks : List (Option ℕ)) (es : List (Option Ends)) (gs : List ℕ) → AreLinkedNumbers ks es gs → AreLinkedNumbers (ks ++ None ∷ []) es (gs ++ 0 ∷ [])
numbers_none ks es gs before = record {
  ends_are = λ s. before.ends_are s ∙ sym (ends-none (eq_by_cmp nat_cmp) s ks);
  gaps_are = ap (λ xs. xs ++ 0 ∷ []) before.gaps_are ∙ sym (gaps-none (eq_by_cmp nat_cmp) ks);
}

-- what is said of a number first
pub first_number : (ks : List (Option ℕ)) (es : List (Option Ends)) (gs : List ℕ) (n : ℕ) (found : Option Ends) → AreLinkedNumbers ks es gs → found ≡ ends_at es n
    → option_map (λ (e : Ends). e.first) found ≡ index_where (has_key (eq_by_cmp nat_cmp) n) ks
first_number ks es gs n found rows is = ap (option_map (λ (e : Ends). e.first)) (is ∙ rows.ends_are n) ∙ first_is (eq_by_cmp nat_cmp) n ks
