-- The old and the new values of a diagram's bits: variable 2 i is the old value of i, and 2 i + 1 the new one.
use Rattle.std.specs.Prelude.{ℕ, ◌/◌, ◌%◌, Bool, ◌&&◌, nat_eq, nat_lt, if◌then◌else◌}

-- bits whose first i values of one side are those of a state
abbrev pub with_side : ℕ → ℕ → (ℕ → Bool) → (ℕ → Bool) → ℕ → Bool
with_side side i x bits v = if nat_eq (v % 2) side && nat_lt (v / 2) i then x (v / 2) else bits v
