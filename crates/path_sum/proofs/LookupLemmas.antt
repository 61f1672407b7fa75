-- Symbols that are looked up by halving, or by a mark.
use Rattle.std.proofs.Common.{◌≡◌, inl, inr, ℕ, zero, suc, ◌+◌, ◌<◌, ◌≤◌, Bool, true, false, List, [], ◌∷◌, ◌++◌, drop, length, get_or, refl, sym, ap, ◌∙◌, subst, arith}
use Rattle.std.specs.Prelude.{Some, Result, Ok, Err, ◌||◌, nat_eq, slice_get, slice_index_or, is_ok}
use Rattle.std.specs.List.Sorted.{IsPermutation, IsNonDecreasing, IsSorted, IsBinarySearchResult}
use Rattle.std.specs.Ordering.{nat_cmp}
use Rattle.std.specs.Result.{MatchResult}
use Rattle.std.proofs.lemmas.Bool.{cases_lt, eq-eqb, eqb-true, or_left, or_right}
use Rattle.std.proofs.lemmas.List.{at_drop_more, at_drop_all}
use Rattle.std.proofs.lemmas.List.Sorted.{searched, list_any-IsPermutation, IsNonDecreasingBy-from_sort}
use Rattle.std.proofs.lemmas.Option.{same_Some}
use Rattle.config_patterns.specs.declared.item.Item.{Item}
use Rattle.config_patterns.specs.Membership.{has_symbol}
use Rattle.path_sum.specs.declared.lookup.Lookup.{Lookup}
use Rattle.path_sum.specs.private.Lookups.{AreMarks, IsSortedCopy, IsLookup, EachIsLookup}

one_there : (g : ℕ) (xs : List ℕ) (k : ℕ) → k < length xs → get_or xs k 0 ≡ g → has_symbol g xs ≡ true
one_there g [] k within is = absurd (omega (arith, within))
one_there g (x ∷ xs) zero within is = or_left (nat_eq x g) (has_symbol g xs) (eq-eqb x g is)
one_there g (x ∷ xs) (suc k) within is = or_right (nat_eq x g) (has_symbol g xs) (one_there g xs k (omega (arith, within)) is)

none_there : (g : ℕ) (xs : List ℕ) → ((k : ℕ) → k < length xs → get_or xs k 0 ≡ g → ⊥) → has_symbol g xs ≡ false
none_there g [] none = refl
none_there g (x ∷ xs) none =
    let rest = none_there g xs (λ k within is. none (suc k) (omega (arith, within)) is) in
    elim (nat_eq x g) as (λ b. nat_eq x g ≡ b → (b || has_symbol g xs) ≡ false) [
      | true ↦ λ is. absurd (none 0 (omega arith) (eqb-true x g is))
      | false ↦ λ _. rest
    ] refl

-- a symbol was found exactly where it is
pub found : (xs : List ℕ) (g : ℕ) (r : Result ℕ ℕ) → IsBinarySearchResult (λ y. nat_cmp y g) xs r → IsNonDecreasing xs → is_ok r ≡ has_symbol g xs
found xs g r position rise =
    let both = searched xs g r position (λ i j le within. rise i j 0 le within) in
    elim r as (λ r. MatchResult r (λ i. (i < length xs) × (get_or xs i 0 ≡ g)) (λ i. (i ≤ length xs) × ((k : ℕ) → k < i → get_or xs k 0 < g) × ((k : ℕ) → i ≤ k → k < length xs → g < get_or xs k 0)) → is_ok r ≡ has_symbol g xs) [
      | Ok i ↦ λ h. sym (one_there g xs i h.0 h.1)
      | Err i ↦ λ h.
          let other : (k : ℕ) → k < length xs → get_or xs k 0 ≡ g → ⊥ = λ k within is. elim (cases_lt k i) [
            | inl lt ↦ let below = h.1 k lt in omega (arith, below, is)
            | inr ge ↦ let above = h.2 k ge within in omega (arith, above, is)
          ] in
          sym (none_there g xs other)
    ] both

-- the symbols of a set once they are sorted
pub sorted_are : (set xs ys : List ℕ) → xs ≡ set → IsPermutation xs ys → IsSorted nat_cmp ys → IsSortedCopy ys set
sorted_are set xs ys same moved sorted = record {
  rise = IsNonDecreasingBy-from_sort (λ n. n) ys sorted;
  same = λ g. sym (list_any-IsPermutation (λ h. nat_eq h g) xs ys moved) ∙ ap (has_symbol g) same;
}

-- marks, while the rest of the set is still to be marked
abbrev pub AreMarksBut : List Bool → List ℕ → List ℕ → Type 0
AreMarksBut marks rest set = (g : ℕ) → (slice_index_or marks g false || has_symbol g rest) ≡ has_symbol g set

or_none : (b : Bool) → (b || false) ≡ b
or_none true = refl
or_none false = refl

or_moved : (a b c : Bool) → ((a || b) || c) ≡ (b || (a || c))
or_moved true true c = refl
or_moved true false c = refl
or_moved false true c = refl
or_moved false false c = refl

pub marks_begun : (set : List ℕ) → AreMarksBut [] set set
marks_begun set g = refl

-- one more is marked
pub marks_more : (set : List ℕ) (i : ℕ) (old new : List Bool) → i < length set → AreMarksBut old (drop i set) set
    → ((g : ℕ) → slice_index_or new g false ≡ (nat_eq (get_or set i 0) g || slice_index_or old g false)) → AreMarksBut new (drop (i + 1) set) set
marks_more set i old new within but marked g =
    let x = get_or set i 0 in
    ap (λ b. b || has_symbol g (drop (i + 1) set)) (marked g)
    ∙ or_moved (nat_eq x g) (slice_index_or old g false) (has_symbol g (drop (i + 1) set))
    ∙ ap (λ b. slice_index_or old g false || b) (sym (at_drop_more (has_symbol g) set i 0 within))
    ∙ but g

-- all are
pub marks_done : (set : List ℕ) (i : ℕ) (marks : List Bool) → length set ≤ i → AreMarksBut marks (drop i set) set → AreMarks marks set
marks_done set i marks past but g =
    sym (or_none (slice_index_or marks g false)) ∙ ap (λ b. slice_index_or marks g false || b) (sym (at_drop_all (has_symbol g) set i past)) ∙ but g

-- one more
pub lookup_more : (ls : List Lookup) (items : List Item) (l : Lookup) → EachIsLookup ls items → ((y : Item) → slice_get items (length ls) ≡ Some y → IsLookup y.set l) → EachIsLookup (ls ++ l ∷ []) items
lookup_more ls [] l each one k m y at there = cc
lookup_more [] (z ∷ items) l each one zero m y at there =
    let P : Lookup → Type 0 = λ n. IsLookup y.set n in
    subst P (same_Some l m at) (one y there)
lookup_more [] (z ∷ items) l each one (suc k) m y at there = cc
lookup_more (n ∷ ls) (z ∷ items) l each one zero m y at there = each 0 m y at there
lookup_more (n ∷ ls) (z ∷ items) l each one (suc k) m y at there =
    lookup_more ls items l (λ j o w a t. each (suc j) o w a t) one k m y at there
