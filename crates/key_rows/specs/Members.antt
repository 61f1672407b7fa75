-- Members of a list that are looked up by a key of their own.
use Rattle.std.specs.Prelude.{ℕ, Bool, List, Option}
use Rattle.std.specs.declared.cmp.Ordering.{Ordering}
use Rattle.std.specs.Ordering.{eq_by_cmp}
use Rattle.key_rows.specs.Positions.{last_where}

module _ {K T : Type 0} (cmp : K → K → Ordering) (key_of : T → K) where
  -- it has this key
  abbrev pub has : K → T → Bool
  has k t = eq_by_cmp cmp k (key_of t)

  -- where the last stands that has a key
  abbrev pub number_of : K → List T → Option ℕ
  number_of k ts = last_where (has k) ts

-- The members, in order of addition, and for how many more there is room.
pub record KeyedMembers (T : Type 0) : Type 0 where
  pub members : List T
  pub spare : ℕ
