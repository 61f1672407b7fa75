-- Texts of a part for each query.
use Rattle.std.proofs.Common.{◌≡◌, ℕ, ◌+◌, ◌<◌, ◌≤◌, List, [], ◌∷◌, ◌++◌, length, get_or, take, drop, refl, sym, ap, ap₂, subst, ◌∙◌, append-nil, append_assoc, take-append-drop, arith}
use Rattle.std.proofs.lemmas.List.{take_more, take_all, take-take, drop-take, length-take-le}
use Rattle.report_text.specs.Reports.{ByQuery}

module _ {Q : Type 0} (P : ℕ → Q → List ℕ → Type 0) where
  -- the parts of some queries, and then those of the queries behind them
  many_more : (i : ℕ) (qs rs : List Q) (text more : List ℕ) → ByQuery P i qs text → ByQuery P (i + length qs) rs more → ByQuery P i (qs ++ rs) (text ++ more)
  many_more i [] rs text more is then =
      let same : i + 0 ≡ i = omega arith in
      subst (λ t. ByQuery P i rs (t ++ more)) (sym is) (subst (λ k. ByQuery P k rs more) same then)
  many_more i (q ∷ qs) rs text more is then =
      let count : i + length (q ∷ qs) ≡ (i + 1) + length qs = omega arith in (
        is.0,
        is.1 ++ more,
        ap (λ t. t ++ more) is.2 ∙ append_assoc is.0 is.1 more,
        is.3,
        many_more (i + 1) qs rs is.1 more is.4 (subst (λ k. ByQuery P k rs more) count then),
      )

  -- the query at a place more
  pub one_query_more : (i : ℕ) (qs : List Q) (place number : ℕ) (d : Q) (text part : List ℕ) → number ≡ i + place → place < length qs → ByQuery P i (take place qs) text
      → P number (get_or qs place d) part → ByQuery P i (take (place + 1) qs) (text ++ part)
  one_query_more i qs place number d text part at within is holds =
      let q = get_or qs place d in
      let count : number ≡ i + length (take place qs) = at ∙ ap (λ k. i + k) (sym (length-take-le place qs (omega (arith, within)))) in
      subst (λ xs. ByQuery P i xs (text ++ part)) (sym (take_more qs place d within))
      (many_more i (take place qs) (q ∷ []) text part is (part, [], sym (append-nil part), subst (λ k. P k q part) count holds, refl))

  -- all queries
  pub all_queries : (i : ℕ) (qs : List Q) (place : ℕ) (text : List ℕ) → length qs ≤ place → ByQuery P i (take place qs) text → ByQuery P i qs text
  all_queries i qs place text past is = subst (λ xs. ByQuery P i xs text) (take_all place qs past) is
