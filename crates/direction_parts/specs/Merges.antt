-- Two rows as one.
use Rattle.std.specs.Prelude.{ℕ, nat_lt, Option, None, Some, if◌then◌else◌}

-- the lower of two numbers, where there is one
abbrev pub lower_of : Option ℕ → Option ℕ → Option ℕ
lower_of a b = elim a [ None ↦ b | Some x ↦ elim b [ None ↦ Some x | Some y ↦ if nat_lt x y then Some x else Some y ] ]
