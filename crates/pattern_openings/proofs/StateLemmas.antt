-- One state further, in a pass over the states of a pattern.
use Rattle.std.proofs.Common.{◌≡◌, inl, inr, ℕ, suc, ◌+◌, ◌-◌, ◌<◌, ◌≤◌, length, subst, Bool, true, false, List, [], ◌∷◌, ◌++◌, refl, sym, ap, ◌∙◌, append_assoc, arith}
use Rattle.std.specs.Prelude.{All, filter, cond}
use Rattle.std.specs.List.{AllByRecursion, range_with_len}
use Rattle.std.proofs.lemmas.List.Elements.{All-from_recursion}
use Rattle.config_patterns.specs.declared.item.Item.{Item}
use Rattle.config_patterns.specs.Edges.{is_final_of}
use Rattle.pattern_openings.specs.PatternOpenings.{finals_of_items}
use Rattle.saturation_laws.proofs.CallerLemmas.{from_filter, from_range}
use Rattle.wpds_base.specs.Lists.{IsIn}

range_next : (k n : ℕ) → k < n → range_with_len k (n - k) ≡ k ∷ range_with_len (k + 1) (n - (k + 1))
range_next k n less = let e : n - k ≡ suc (n - (k + 1)) = omega (arith, less) in ap (range_with_len k) e

module _ (test : ℕ → Bool) where
  first : (k : ℕ) (xs : List ℕ) → filter test (k ∷ xs) ≡ filter test (k ∷ []) ++ filter test xs
  first k xs = elim (test k) as (λ b. cond b (k ∷ filter test xs) (filter test xs) ≡ cond b (k ∷ []) [] ++ filter test xs) [ true ↦ refl | false ↦ refl ]

  pub finals_next : (k n : ℕ) (old new all : List ℕ) → k < n → old ++ filter test (range_with_len k (n - k)) ≡ all → new ≡ old ++ filter test (k ∷ []) → new ++ filter test (range_with_len (k + 1) (n - (k + 1))) ≡ all
  finals_next k n old new all less was made =
      let rest = range_with_len (k + 1) (n - (k + 1)) in
      ap (λ ys. ys ++ filter test rest) made ∙ append_assoc old (filter test (k ∷ [])) (filter test rest)
      ∙ ap (λ ys. old ++ ys) (sym (first k rest)) ∙ ap (λ ys. old ++ filter test ys) (sym (range_next k n less)) ∙ was

-- a final state is that of an item, or of the control
final_few : (items : List Item) (i : ℕ) → IsIn i (finals_of_items items) → i ≤ length items
final_few items i there =
    let within = from_range 0 (suc (length items)) i (from_filter (is_final_of items) i (range_with_len 0 (suc (length items))) there).0 in
    let h = within.1 in omega (arith, h)

each_few : (n : ℕ) (qs : List ℕ) → ((q : ℕ) → IsIn q qs → q ≤ n) → AllByRecursion (λ q. q ≤ n) qs
each_few n [] each = tt
each_few n (q ∷ qs) each = (each q (inl refl), each_few n qs (λ r h. each r (inr h)))

-- so the final states of a pattern with few items are few
pub finals_few : (items : List Item) (most : ℕ) (finals : List ℕ) → length items ≤ most → finals ≡ finals_of_items items → All (λ q. q ≤ most) finals
finals_few items most finals few is =
    let P : List ℕ → Type 0 = λ qs. All (λ q. q ≤ most) qs in
    subst P (sym is) (All-from_recursion (λ q. q ≤ most) (finals_of_items items) (each_few most (finals_of_items items) (λ q h. let low = final_few items q h in omega (arith, low, few))))
