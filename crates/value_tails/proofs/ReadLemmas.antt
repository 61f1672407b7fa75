-- Symbols that a set has.
use Rattle.std.proofs.Common.{◌≡◌, inl, inr, ℕ, ◌<◌, ◌≤◌, Bool, true, false, List, [], ◌∷◌, length, refl, sym, ap, ◌∙◌, subst, arith}
use Rattle.std.specs.Prelude.{All, IsTrue, nat_eq, ◌||◌}
use Rattle.std.specs.List.{AllByRecursion}
use Rattle.std.proofs.lemmas.Bool.{cases_Bool, false≢true, eqb-true, eq-eqb}
use Rattle.std.proofs.lemmas.List.Elements.{recursion_from_All}
use Rattle.config_patterns.specs.Membership.{has_symbol}

below_by : (n : ℕ) (set : List ℕ) → AllByRecursion (λ g. g < n) set → (g : ℕ) → has_symbol g set ≡ true → g < n
below_by n [] all g is = absurd (false≢true is)
below_by n (y ∷ ys) all g is = elim (cases_Bool (nat_eq y g)) [
  | inl same ↦ let P : ℕ → Type 0 = λ k. k < n in subst P (eqb-true y g same) all.0
  | inr differs ↦ below_by n ys all.1 g (sym (ap (λ b. b || has_symbol g ys) differs) ∙ is)
]

pub symbol_below : (n : ℕ) (set : List ℕ) → All (λ g. g < n) set → (g : ℕ) → has_symbol g set ≡ true → g < n
symbol_below n set all g is = below_by n set (recursion_from_All (λ k. k < n) set all) g is

-- a set that is not empty has a symbol, and one that has a symbol is not empty
pub first_symbol : (set : List ℕ) → 0 < length set → (g : ℕ) × (has_symbol g set ≡ true)
first_symbol [] low = absurd (omega (arith, low))
first_symbol (y ∷ ys) low = (y, ap (λ b. b || has_symbol y ys) (eq-eqb y y refl))

pub none_has : (set : List ℕ) → length set ≤ 0 → (g : ℕ) → has_symbol g set ≡ true → ⊥
none_has [] low g is = absurd (false≢true is)
none_has (y ∷ ys) low g is = absurd (omega (arith, low))
