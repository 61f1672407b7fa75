-- Rows: those of a list that have a key in common.
use Rattle.std.specs.Prelude.{◌≡◌, ℕ, suc, ◌+◌, ◌-◌, ◌≤◌, ◌^◌, Bool, false, nat_eq, nat_lt, List, [], ◌∷◌, Option, None, Some, slice_get, slice_set, vec_len, vec_capacity, if◌then◌else◌}
use Rattle.std.specs.declared.cmp.Ordering.{Ordering}
use Rattle.std.specs.Ordering.{eq_by_cmp}
pub use Rattle.key_rows.specs.Positions.{index_where, index_from, last_where}
use Rattle.key_rows.specs.Cells.{cell, ContainsKey}
use Rattle.key_rows.specs.declared.rows.Ends.{Ends}
use Rattle.key_rows.specs.declared.rows.Row.{Row}
use Rattle.key_rows.specs.declared.rows.KeyRows.{KeyRows}

-- where the next of a row stands, by the distance to it, which is 0 for the last
abbrev pub next_by : ℕ → ℕ → Option ℕ
next_by k g = if nat_eq g 0 then None else Some (k + g)

-- the distances once another of the row stands at a number
abbrev pub gap_to : Option Ends → ℕ → List ℕ → List ℕ
gap_to None n gs = gs
gap_to (Some e) n gs = if nat_lt e.last n then slice_set gs e.last (n - e.last) else gs

module _ {K : Type 0} (same : K → K → Bool) where
  -- it has this key
  abbrev pub has_key : K → Option K → Bool
  has_key k None = false
  has_key k (Some j) = same k j

  -- where the next stands that has the key of the k-th
  abbrev pub next_alike : ℕ → List (Option K) → Option ℕ
  next_alike k ks = elim (slice_get ks k) [
    | None ↦ None
    | Some o ↦ elim o [ None ↦ None | Some key ↦ index_from (has_key key) (k + 1) ks ]
  ]

  -- how far behind one with this key the next of its row stands, and 0 for the last
  abbrev pub gap : Option K → List (Option K) → ℕ
  gap None ks = 0
  gap (Some k) ks = elim (index_where (has_key k) ks) [ None ↦ 0 | Some i ↦ suc i ]

  abbrev pub gaps_of : List (Option K) → List ℕ
  gaps_of [] = []
  gaps_of (o ∷ ks) = gap o ks ∷ gaps_of ks

  -- where the first and the last of a row stand
  abbrev pub ends_of : K → List (Option K) → Option Ends
  ends_of k ks = elim (index_where (has_key k) ks) [
    | None ↦ None
    | Some i ↦ elim (last_where (has_key k) ks) [ None ↦ None | Some l ↦ Some (record { first = i; last = l }) ]
  ]

module _ {K : Type 0} (cmp : K → K → Ordering) where
  -- The rows and the distances are those of a list of keys.
  pub record AreLinked (ks : List (Option K)) (rs : List (Row K)) (gs : List ℕ) : Type 0 where
    pub ends_are : (k : K) → cell cmp rs k ≡ ends_of (eq_by_cmp cmp) k ks
    pub gaps_are : gs ≡ gaps_of (eq_by_cmp cmp) ks

  -- The rows are those of a list whose members have these keys, or none.
  abbrev pub AreRows : List (Option K) → KeyRows K → Type 0
  AreRows ks rows = AreLinked ks rows.cells.members rows.gaps.items

  -- a member with this key can be added without a new cell
  abbrev pub HasCell : KeyRows K → Option K → Type 0
  HasCell rows None = Unit {0}
  HasCell rows (Some key) = ContainsKey cmp rows.cells.members key

-- There is space for so many members more, and they can be numbered.
pub record HasSpace {K : Type 0} (n : ℕ) (rows : KeyRows K) : Type 0 where
  pub room : vec_len rows.gaps + n ≤ vec_capacity rows.gaps
  pub numbers : vec_len rows.gaps + n ≤ 2 ^ 32
