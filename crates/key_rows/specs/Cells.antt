-- The row of a key, among rows with a key each.
use Rattle.std.specs.Prelude.{ℕ, zero, suc, Bool, List, [], ◌∷◌, Option, None, Some, option_map, option_and_then, slice_get, IsSome}
use Rattle.std.specs.declared.cmp.Ordering.{Ordering}
use Rattle.std.specs.Ordering.{eq_by_cmp}
use Rattle.key_rows.specs.declared.rows.Ends.{Ends}
use Rattle.key_rows.specs.declared.rows.Row.{Row}
use Rattle.key_rows.specs.Positions.{last_where}

module _ {K : Type 0} where
  abbrev pub key_in : Row K → K
  key_in r = r.key

  abbrev pub ends_in : Row K → Option Ends
  ends_in r = r.ends

  -- the rows once the ends of one are others
  abbrev pub with_ends : ℕ → Ends → List (Row K) → List (Row K)
  with_ends n e [] = []
  with_ends zero e (r ∷ rs) = record { key = r.key; ends = Some e } ∷ rs
  with_ends (suc n) e (r ∷ rs) = r ∷ with_ends n e rs

module _ {K : Type 0} (cmp : K → K → Ordering) where
  -- it has this key
  abbrev pub is_of : K → Row K → Bool
  is_of k r = eq_by_cmp cmp k r.key

  -- where the row of a key stands
  abbrev pub row_number : K → List (Row K) → Option ℕ
  row_number k rs = last_where (is_of k) rs

  -- what the row of a key says
  abbrev pub get : List (Row K) → K → Option (Option Ends)
  get rs k = option_and_then (λ n. option_map ends_in (slice_get rs n)) (row_number k rs)

  -- its ends, where some member has the key
  abbrev pub cell : List (Row K) → K → Option Ends
  cell rs k = elim (get rs k) [ None ↦ None | Some c ↦ c ]

  abbrev pub ContainsKey : List (Row K) → K → Type 0
  ContainsKey rs k = IsSome (get rs k)
