-- What is told of a point.
use Rattle.std.specs.Prelude.{ℕ, Bool, List, codes, if◌then◌else◌}

-- by whether it is reached
abbrev pub verdict : Bool → List ℕ
verdict reached = if reached then codes "reachable" else codes "unreachable"
