-- What is counted of lists of runs.
use Rattle.std.specs.Prelude.{◌≡◌, ℕ, ◌+◌, ◌<◌, ◌≤◌, ◌^◌, List, length, Option, None, Some, slice_index_or, sum_by}
use Rattle.report_text.specs.declared.totals.Totals.{Totals}

-- these amounts, or none where their sum is over all numbers of 64 bits
abbrev pub Amounts : Option Totals → ℕ → ℕ → Type 0
Amounts None runs rules = 2 ^ 64 ≤ runs + rules
Amounts (Some t) runs rules = (t.runs ≡ runs) × (t.rules ≡ rules)

-- how many rules runs have together
abbrev pub rules_in : List (List ℕ) → ℕ
rules_in runs = sum_by length runs

-- The totals are those of these runs, of which there is one at least.
pub record IsCounted (total : Option Totals) (runs : List (List ℕ)) : Type 0 where
  pub some : 0 < length runs
  pub amounts : Amounts total (length runs) (rules_in runs)

-- each node's are those of its runs
abbrev pub AreCounted : List (Option Totals) → (ℕ → List (List ℕ)) → Type 0
AreCounted totals known = (k : ℕ) → k < length totals → IsCounted (slice_index_or totals k None) (known k)
