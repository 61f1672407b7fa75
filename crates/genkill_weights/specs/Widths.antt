-- The widths of masks, in words of 64 facts.
use Rattle.std.specs.Prelude.{ℕ, ◌*◌, ◌≤◌, List, [], ◌∷◌, Contains, find, nat_le, unwrap_or}

abbrev pub widths : List ℕ
widths = 1 ∷ 2 ∷ 4 ∷ 8 ∷ 16 ∷ []

-- the first width that has room for so many facts, or the last one
abbrev pub width_for : ℕ → ℕ
width_for facts = unwrap_or (find (λ n. nat_le facts (64 * n)) widths) 16

-- the least width that has room for so many facts
pub record IsLeastWidth (facts n : ℕ) : Type 0 where
  pub width : Contains widths n
  pub room : facts ≤ 64 * n
  pub least : (m : ℕ) → Contains widths m → facts ≤ 64 * m → n ≤ m
