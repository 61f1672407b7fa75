-- How many workers there may be.
use Rattle.std.specs.Prelude.{ℕ, ◌<◌, ◌≤◌}
use Rattle.wpds_base.specs.Limits.{most_seats}

-- from one to a seat for each
abbrev pub IsWorkerCount : ℕ → Type 0
IsWorkerCount n = (0 < n) × (n ≤ most_seats)
