-- A moment of a run: the setting that the whole run starts with, those at the open calls, the newest first, and the
-- present one.
use Rattle.std.specs.Prelude.{◌≡◌, ℕ, Bool, List, [], ◌∷◌, length}
use Rattle.std.specs.List.{AllByRecursion}

pub record Moment : Type 0 where
  pub start : List Bool
  pub saved : List (List Bool)
  pub present : List Bool

-- the setting at the newest open call, or else at the start
abbrev pub newest_of : {X : Type 0} → X → List X → X
newest_of start saved = elim saved [ [] ↦ start | y ∷ ys ↦ y ]

-- each setting has n bits
pub record IsWide (n : ℕ) (at : Moment) : Type 0 where
  pub start : length at.start ≡ n
  pub saved : AllByRecursion (λ (y : List Bool). length y ≡ n) at.saved
  pub present : length at.present ≡ n
