-- Places in lists.
use Rattle.std.specs.List.{range_with_len}
use Rattle.std.proofs.Common.{◌≡◌, ℕ, zero, suc, ◌+◌, ◌<◌, ◌≤◌, Bool, true, false, cond, List, [], ◌∷◌, length, map, refl, sym, ap, ◌∙◌, subst, arith, nat_eq, ◌⊎◌, inl, inr}
use Rattle.std.specs.Prelude.{Option, None, Some, slice_get, option_map}
use Rattle.std.proofs.lemmas.Bool.{eqb-true, eq-eqb, cond-true, cond-false}
use Rattle.std.proofs.lemmas.Option.{same_Some}
use Rattle.boolean_programs.specs.Lists.{place_in}
pub use Rattle.boolean_machine.proofs.CallerLemmas.{get_front, get_back, get_joined, get_within, get_replicate, get_mapped, get_map}
use Rattle.boolean_programs.specs.Structure.{largest}

-- ---- the first place of a number

abbrev step : ℕ → ℕ
step k = suc k

place_here : (x n : ℕ) (xs : List ℕ) (k : ℕ) (o : Option ℕ) (b : Bool) → nat_eq x n ≡ b → ((j : ℕ) → o ≡ Some j → slice_get xs j ≡ Some n)
    → cond b (Some 0) (option_map (λ j. suc j) o) ≡ Some k → slice_get (x ∷ xs) k ≡ Some n
place_here x n xs k o true same more e = subst (λ j. slice_get (x ∷ xs) j ≡ Some n) (same_Some 0 k e) (ap Some (eqb-true x n same))
place_here x n xs k None false same more e = cc
place_here x n xs k (Some j) false same more e = subst (λ i. slice_get (x ∷ xs) i ≡ Some n) (same_Some (suc j) k e) (more j refl)

pub place_is : (xs : List ℕ) (n k : ℕ) → place_in xs n ≡ Some k → slice_get xs k ≡ Some n
place_is [] n k e = cc
place_is (x ∷ xs) n k e = place_here x n xs k (place_in xs n) (nat_eq x n) refl (λ j h. place_is xs n j h) e

place_found : (x n : ℕ) (o : Option ℕ) (b : Bool) → nat_eq x n ≡ b → ((x ≡ n) ⊎ ((k : ℕ) × (o ≡ Some k))) → (k : ℕ) × (cond b (Some 0) (option_map (λ j. suc j) o) ≡ Some k)
place_found x n o true same more = (0, refl)
place_found x n o false same (inl e) = let e' : false ≡ true = sym same ∙ eq-eqb x n e in absurd (let f : true ≡ false = sym e' in cc)
place_found x n o false same (inr h) = (suc h.0, ap (option_map (λ j. suc j)) h.1)

-- a number that stands in a list has a place there
pub place_of : (xs : List ℕ) (n k : ℕ) → slice_get xs k ≡ Some n → (j : ℕ) × (place_in xs n ≡ Some j)
place_of [] n k e = cc
place_of (x ∷ xs) n zero e = place_found x n (place_in xs n) (nat_eq x n) refl (inl (same_Some x n e))
place_of (x ∷ xs) n (suc k) e = place_found x n (place_in xs n) (nat_eq x n) refl (inr (place_of xs n k e))

module _ (f : ℕ → ℕ) (injective : (a b : ℕ) → f a ≡ f b → a ≡ b) where
  place_same : (x n : ℕ) (o : Option ℕ) (b c : Bool) → nat_eq x n ≡ b → nat_eq (f x) (f n) ≡ c
      → cond c (Some 0) (option_map (λ j. suc j) o) ≡ cond b (Some 0) (option_map (λ j. suc j) o)
  place_same x n o true true e d = refl
  place_same x n o false false e d = refl
  place_same x n o true false e d = let h : false ≡ true = sym d ∙ eq-eqb (f x) (f n) (ap f (eqb-true x n e)) in cc
  place_same x n o false true e d = let h : false ≡ true = sym e ∙ eq-eqb x n (injective x n (eqb-true (f x) (f n) d)) in cc

  -- the place under other names
  pub place_mapped : (xs : List ℕ) (n : ℕ) → place_in (map f xs) (f n) ≡ place_in xs n
  place_mapped [] n = refl
  place_mapped (x ∷ xs) n =
      ap (λ o. cond (nat_eq (f x) (f n)) (Some 0) (option_map (λ j. suc j) o)) (place_mapped xs n)
      ∙ place_same x n (place_in xs n) (nat_eq x n) (nat_eq (f x) (f n)) refl refl

-- ---- numbers of a range

pub length-range_with_len : (from n : ℕ) → length (range_with_len from n) ≡ n
length-range_with_len from zero = refl
length-range_with_len from (suc n) = ap suc (length-range_with_len (from + 1) n)

pub place_below : (from n v : ℕ) → v < from → place_in (range_with_len from n) v ≡ None
place_below from zero v h = refl
place_below from (suc n) v h =
    ap (λ o. cond (nat_eq from v) (Some 0) (option_map (λ j. suc j) o)) (place_below (from + 1) n v (omega arith))
    ∙ cond-false (nat_eq from v) (Some 0) None (differ (nat_eq from v) refl)
  where
    differ : (b : Bool) → nat_eq from v ≡ b → b ≡ false
    differ true e = let same : from ≡ v = eqb-true from v e in absurd (omega arith)
    differ false e = refl

pub place_in_range : (from n j : ℕ) → j < n → place_in (range_with_len from n) (from + j) ≡ Some j
place_in_range from zero j h = absurd (omega arith)
place_in_range from (suc n) zero h = cond-true (nat_eq from (from + 0)) (Some 0) _ (eq-eqb from (from + 0) (omega arith))
place_in_range from (suc n) (suc j) h =
    let at : from + suc j ≡ from + 1 + j = omega arith in
    ap (λ o. cond (nat_eq from (from + suc j)) (Some 0) (option_map (λ i. suc i) o)) (ap (place_in (range_with_len (from + 1) n)) at ∙ place_in_range (from + 1) n j (omega arith))
    ∙ cond-false (nat_eq from (from + suc j)) (Some 0) (Some (suc j)) (differ (nat_eq from (from + suc j)) refl)
  where
    differ : (b : Bool) → nat_eq from (from + suc j) ≡ b → b ≡ false
    differ true e = let same : from ≡ from + suc j = eqb-true from (from + suc j) e in absurd (omega arith)
    differ false e = refl

pub place_above : (from n v : ℕ) → from + n ≤ v → place_in (range_with_len from n) v ≡ None
place_above from zero v h = refl
place_above from (suc n) v h =
    ap (λ o. cond (nat_eq from v) (Some 0) (option_map (λ j. suc j) o)) (place_above (from + 1) n v (omega arith))
    ∙ cond-false (nat_eq from v) (Some 0) None (differ (nat_eq from v) refl)
  where
    differ : (b : Bool) → nat_eq from v ≡ b → b ≡ false
    differ true e = let same : from ≡ v = eqb-true from v e in absurd (omega arith)
    differ false e = refl

-- ---- the largest

pub within_largest : (ns : List ℕ) (k n : ℕ) → slice_get ns k ≡ Some n → n ≤ largest ns
within_largest [] k n e = cc
within_largest (m ∷ ns) zero n e = let same : m ≡ n = same_Some m n e in omega arith
within_largest (m ∷ ns) (suc k) n e = let below = within_largest ns k n e in omega arith
