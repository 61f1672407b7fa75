-- Values one by one.
use Rattle.std.proofs.Common.{◌≡◌, inl, inr, ℕ, zero, suc, ◌+◌, List, [], ◌∷◌, ◌++◌, length, refl, sym, ap, ◌∙◌, arith}
use Rattle.std.proofs.lemmas.List.{length-append}
use Rattle.std.specs.Prelude.{◌⊎◌, Some, slice_get}

-- what stands at a place of a list with one more
pub at_place : {Y : Type 0} (ys : List Y) (y z : Y) (k : ℕ) → slice_get (ys ++ y ∷ []) k ≡ Some z → ((k ≡ length ys) × (z ≡ y)) ⊎ (slice_get ys k ≡ Some z)
at_place [] y z zero is = let same : y ≡ z = cc in inl (refl, sym same)
at_place [] y z (suc k) is = cc
at_place (x ∷ ys) y z zero is = inr is
at_place (x ∷ ys) y z (suc k) is = elim (at_place ys y z k is) [
  | inl both ↦ inl (ap suc both.0, both.1)
  | inr old ↦ inr old
]

-- a list of one, whose last is known
pub only_one : {Y : Type 0} (xs ys : List Y) (y : Y) → xs ≡ ys ++ y ∷ [] → length xs ≡ 1 → xs ≡ y ∷ []
only_one xs [] y is one = is
only_one xs (z ∷ ys) y is one =
    let long : length xs ≡ length (z ∷ ys) + 1 = ap length is ∙ length-append (z ∷ ys) (y ∷ []) in
    let more : length (z ∷ ys) ≡ suc (length ys) = refl in
    absurd (omega (arith, long, more, one))
