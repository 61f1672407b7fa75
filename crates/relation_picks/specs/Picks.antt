-- What is asked of states that are picked.
use Rattle.std.specs.Prelude.{◌≡◌, ℕ, ◌<◌, Bool, List, slice_get, Some}

-- a state has the bits that are listed, each with its number
abbrev pub HasBits : List (ℕ × Bool) → (ℕ → Bool) → Type 0
HasBits wanted x = (k u : ℕ) (b : Bool) → slice_get wanted k ≡ Some (u, b) → x u ≡ b

-- the listed numbers are below n
abbrev pub AreBitsBelow : ℕ → List (ℕ × Bool) → Type 0
AreBitsBelow n wanted = (k u : ℕ) (b : Bool) → slice_get wanted k ≡ Some (u, b) → u < n
