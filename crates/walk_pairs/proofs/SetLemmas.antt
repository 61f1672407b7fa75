-- Sets of symbols: one with as many as there are has them all.
use Rattle.std.proofs.Common.{◌≡◌, inl, inr, ℕ, zero, suc, get_or, ◌<◌, ◌≤◌, Bool, true, false, List, [], ◌∷◌, length, eqb, refl, sym, ap, ◌∙◌, subst, arith}
use Rattle.std.specs.Prelude.{◌||◌, not, nat_eq, Some, All, slice_get}
use Rattle.std.specs.List.{AllByRecursion, IsDistinct, list_any}
use Rattle.std.proofs.lemmas.Bool.{and_parts, cases_Bool, eqb-true, eq-eqb, false≢true}
use Rattle.std.proofs.lemmas.Option.{get_or_from_slice_get, slice_get_within}
use Rattle.std.proofs.lemmas.List.Elements.{recursion_from_All}
use Rattle.std.proofs.lemmas.Map.Steps.{length-le_from_distinct_below}
use Rattle.config_patterns.specs.Membership.{has_symbol}
use Rattle.config_patterns.specs.Validity.{is_set}

not_true : (b : Bool) → not b ≡ true → b ≡ false
not_true true h = absurd (false≢true h)
not_true false h = refl

-- a symbol that is not in the set differs from each of it
unlisted : (g : ℕ) (set : List ℕ) → has_symbol g set ≡ false → AllByRecursion (λ y. eqb g y ≡ false) set
unlisted g [] none = tt
unlisted g (y ∷ ys) none = elim (cases_Bool (nat_eq y g)) [
  | inl is ↦ let both : true ≡ false = sym (ap (λ b. b || has_symbol g ys) is) ∙ none in cc
  | inr differs ↦ (
    elim (cases_Bool (eqb g y)) [
      | inl same ↦ let both : true ≡ false = sym (eq-eqb y g (sym (eqb-true g y same))) ∙ differs in cc
      | inr other ↦ other
    ],
    unlisted g ys (sym (ap (λ b. b || has_symbol g ys) differs) ∙ none),
  )
]

distinct : (set : List ℕ) → is_set set ≡ true → IsDistinct eqb set
unfolding IsDistinct
distinct [] is = tt
distinct (g ∷ gs) is = let parts = and_parts (not (has_symbol g gs)) (is_set gs) is in (unlisted g gs (not_true (has_symbol g gs) parts.0), distinct gs parts.1)

distinct_cons : (g : ℕ) (set : List ℕ) → has_symbol g set ≡ false → is_set set ≡ true → IsDistinct eqb (g ∷ set)
unfolding IsDistinct
distinct_cons g set none is = (unlisted g set none, distinct set is)

-- what is listed is below what all are below
listed_below : (n : ℕ) (set : List ℕ) → AllByRecursion (λ g. g < n) set → (q : ℕ) → list_any (eqb q) set ≡ true → q < n
listed_below n [] all q is = absurd (false≢true is)
listed_below n (y ∷ ys) all q is = elim (cases_Bool (eqb q y)) [
  | inl same ↦ let P : ℕ → Type 0 = λ k. k < n in subst P (sym (eqb-true q y same)) all.0
  | inr differs ↦ listed_below n ys all.1 q (sym (ap (λ b. b || list_any (eqb q) ys) differs) ∙ is)
]

pub all_symbols : (n : ℕ) (set : List ℕ) → All (λ g. g < n) set → is_set set ≡ true → length set ≡ n → (g : ℕ) → g < n → has_symbol g set ≡ true
all_symbols n set below is size g low = elim (cases_Bool (has_symbol g set)) [
  | inl has ↦ has
  | inr none ↦
      let few : length (g ∷ set) ≤ n = length-le_from_distinct_below (g ∷ set) n (distinct_cons g set none is) (listed_below n (g ∷ set) (low, recursion_from_All (λ k. k < n) set below)) in
      absurd (omega (arith, few, size))
]

-- where a symbol stands
pub symbol_at : (set : List ℕ) (g : ℕ) → has_symbol g set ≡ true → (k : ℕ) × (k < length set) × (get_or set k 0 ≡ g)
symbol_at [] g is = absurd (false≢true is)
symbol_at (y ∷ ys) g is = elim (cases_Bool (nat_eq y g)) [
  | inl same ↦ (0, omega arith, eqb-true y g same)
  | inr differs ↦ let rest = symbol_at ys g (sym (ap (λ b. b || has_symbol g ys) differs) ∙ is) in (suc rest.0, let low = rest.1 in omega (arith, low), rest.2)
]

has_symbol_at : (set : List ℕ) (k : ℕ) → k < length set → has_symbol (get_or set k 0) set ≡ true
has_symbol_at [] k low = absurd (omega (arith, low))
has_symbol_at (y ∷ ys) zero low = ap (λ b. b || has_symbol y ys) (eq-eqb y y refl)
has_symbol_at (y ∷ ys) (suc k) low = elim (nat_eq y (get_or ys k 0)) as (λ b. (b || has_symbol (get_or ys k 0) ys) ≡ true) [
  | true ↦ refl
  | false ↦ has_symbol_at ys k (omega (arith, low))
]

pub has_symbol_of : (set : List ℕ) (k g : ℕ) → slice_get set k ≡ Some g → has_symbol g set ≡ true
has_symbol_of set k g at = subst (λ h. has_symbol h set ≡ true) (get_or_from_slice_get set k g 0 at) (has_symbol_at set k (slice_get_within set k g at))

-- none of a list is in a set where none stands at a place of it
pub none_shared : (xs set : List ℕ) → ((k : ℕ) → k < length xs → has_symbol (get_or xs k 0) set ≡ false) → (g : ℕ) → has_symbol g xs ≡ true → has_symbol g set ≡ true → ⊥
none_shared xs set none g is has =
    let at = symbol_at xs g is in
    let P : ℕ → Type 0 = λ h. has_symbol h set ≡ false in
    let other : has_symbol g set ≡ false = subst P at.2 (none at.0 at.1) in
    false≢true (sym other ∙ has)
