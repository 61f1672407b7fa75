-- Lists of runs that are written out only where they are small enough.
use Rattle.std.specs.Prelude.{◌≡◌, ℕ, ◌+◌, ◌<◌, ◌≤◌, List, [], ◌∷◌, length, nat_lt, sum_by, if◌then◌else◌}
use Rattle.report_text.specs.declared.expansion.Expanded.{Expanded}
use Rattle.report_text.specs.declared.expansion.Expanded.TheVariants.{Runs, TooLong}
use Rattle.report_text.specs.declared.walking.NextRun.{NextRun}
use Rattle.report_text.specs.declared.walking.NextRun.TheVariants.{Run, TooLong as Longer, End}

-- how much runs take: each its rules, and one more
abbrev pub size_of : List (List ℕ) → ℕ
size_of runs = sum_by (λ run. length run + 1) runs

-- the runs, unless their size is over the limit
abbrev pub expansion : ℕ → List (List ℕ) → Expanded
expansion limit runs = if nat_lt limit (size_of runs) then TooLong else Runs runs

-- The next of some runs, unless it has more rules than this, and those that are left.
abbrev pub IsNextWithin : ℕ → NextRun → (all left : List (List ℕ)) → Type 0
IsNextWithin room (Run run) all left = (all ≡ run ∷ left) × (length run ≤ room)
IsNextWithin room Longer all left = (run : List ℕ) × (rest : List (List ℕ)) × (all ≡ run ∷ rest) × (room < length run)
IsNextWithin room End all left = all ≡ []
