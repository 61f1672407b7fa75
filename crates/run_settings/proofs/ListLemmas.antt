-- One element more at the end of a list.
use Rattle.std.proofs.Common.{◌≡◌, ℕ, zero, suc, List, [], ◌∷◌, ◌++◌, length, refl, ap, ◌⊎◌, inl, inr}
use Rattle.std.specs.Prelude.{Some, slice_get}
use Rattle.std.proofs.lemmas.Option.{same_Some}

module _ {X : Type 0} where
  pub push_last : (xs : List X) (x : X) → slice_get (xs ++ x ∷ []) (length xs) ≡ Some x
  push_last [] x = refl
  push_last (y ∷ xs) x = push_last xs x

  pub push_old : (xs : List X) (x : X) (k : ℕ) (y : X) → slice_get xs k ≡ Some y → slice_get (xs ++ x ∷ []) k ≡ Some y
  push_old [] x k y e = cc
  push_old (z ∷ xs) x zero y e = e
  push_old (z ∷ xs) x (suc k) y e = push_old xs x k y e

  pub push_cases : (xs : List X) (x : X) (k : ℕ) (y : X) → slice_get (xs ++ x ∷ []) k ≡ Some y → (slice_get xs k ≡ Some y) ⊎ ((x ≡ y) × (k ≡ length xs))
  push_cases [] x zero y e = inr (same_Some x y e, refl)
  push_cases [] x (suc k) y e = cc
  push_cases (z ∷ xs) x zero y e = inl e
  push_cases (z ∷ xs) x (suc k) y e = elim (push_cases xs x k y e) [
    | inl old ↦ inl old
    | inr new ↦ inr (new.0, ap (λ i. suc i) new.1)
  ]
