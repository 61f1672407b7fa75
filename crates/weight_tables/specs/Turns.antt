-- How often entries can be taken still.
use Rattle.std.specs.Prelude.{ℕ, ◌+◌, ◌-◌, ◌*◌, ◌^◌, List, [], ◌∷◌, length, if◌then◌else◌}
use Rattle.semiring_laws.specs.Semiring.{Operations}
use Rattle.weight_tables.specs.Entries.{TableEntry}

-- how many of them wait
abbrev pub waiting : {W : Type 0} → List (TableEntry W) → ℕ
waiting [] = 0
waiting (e ∷ es) = (if e.waits then 1 else 0) + waiting es

module _ {W Map : Type 0} (s : Operations W Map) where
  -- how far their weights can fall
  abbrev pub ranks_in : List (TableEntry W) → ℕ
  ranks_in [] = 0
  ranks_in (e ∷ es) = s.rank e.weight + ranks_in es

  -- Twice how far the weights can fall, where each of 2^32 places counts that has no entry as well, and how many wait. To lower does not raise it, and to take one that waits lowers it.
  abbrev pub turns_left : List (TableEntry W) → ℕ
  turns_left es = 2 * ranks_in es + (2 ^ 32 - length es) * (2 * s.top_rank + 1) + waiting es
