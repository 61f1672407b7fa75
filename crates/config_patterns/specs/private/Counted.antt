-- Sets of which the code keeps the count of symbols alone.
use Rattle.std.specs.Prelude.{◌≡◌, ℕ, ◌<◌, List, length, All}

-- so many symbols, each below a number
pub record IsCounted (count below : ℕ) (set : List ℕ) : Type 0 where
  pub size : length set ≡ count
  pub low : All (λ g. g < below) set
