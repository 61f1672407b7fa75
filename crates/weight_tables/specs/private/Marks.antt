-- Numbers that wait, and their marks.
use Rattle.std.specs.Prelude.{◌≡◌, ℕ, Bool, false, nat_eq, List, [], ◌∷◌, slice_index_or}
use Rattle.std.specs.List.{list_any}

abbrev pub has_number : ℕ → List ℕ → Bool
has_number k q = list_any (λ n. nat_eq n k) q

-- no number waits twice
abbrev pub NumbersOnce : List ℕ → Type 0
NumbersOnce [] = Unit {0}
NumbersOnce (n ∷ ns) = (has_number n ns ≡ false) × NumbersOnce ns

-- The marks say which numbers wait.
pub record AreMarked (q : List ℕ) (waits : List Bool) : Type 0 where
  pub marks : (k : ℕ) → slice_index_or waits k false ≡ has_number k q
  pub once : NumbersOnce q
