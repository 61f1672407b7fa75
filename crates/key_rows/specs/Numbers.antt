-- Rows by number: those of a list whose members have a number each, or none.
use Rattle.std.specs.Prelude.{◌≡◌, ℕ, ◌+◌, ◌<◌, ◌≤◌, ◌^◌, List, Option, None, Some, slice_get, vec_len, vec_capacity}
use Rattle.std.specs.Ordering.{eq_by_cmp, nat_cmp}
use Rattle.key_rows.specs.Rows.{ends_of, gaps_of}
use Rattle.key_rows.specs.declared.rows.Ends.{Ends}
use Rattle.key_rows.specs.declared.numbers.NumberRows.{NumberRows}

-- what is said of a number
abbrev pub ends_at : List (Option Ends) → ℕ → Option Ends
ends_at es n = elim (slice_get es n) [ None ↦ None | Some o ↦ o ]

-- The ends and the distances are those of a list of numbers.
pub record AreLinkedNumbers (ks : List (Option ℕ)) (es : List (Option Ends)) (gs : List ℕ) : Type 0 where
  pub ends_are : (n : ℕ) → ends_at es n ≡ ends_of (eq_by_cmp nat_cmp) n ks
  pub gaps_are : gs ≡ gaps_of (eq_by_cmp nat_cmp) ks

-- The rows are those of a list whose members have these numbers, or none.
abbrev pub AreNumberRows : List (Option ℕ) → NumberRows → Type 0
AreNumberRows ks rows = AreLinkedNumbers ks rows.ends.items rows.gaps.items

-- a member with this number can be added without memory for its number
abbrev pub HasNumber : NumberRows → Option ℕ → Type 0
HasNumber rows None = Unit {0}
HasNumber rows (Some n) = n < vec_len rows.ends

-- There is space for so many members more, and they can be numbered.
pub record HasNumberSpace (n : ℕ) (rows : NumberRows) : Type 0 where
  pub room : vec_len rows.gaps + n ≤ vec_capacity rows.gaps
  pub numbers : vec_len rows.gaps + n ≤ 2 ^ 32
