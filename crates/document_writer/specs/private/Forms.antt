-- The parts of what a variable becomes by a copy.
use Rattle.std.specs.Prelude.{ℕ, ◌-◌, ◌/◌, ◌%◌, ◌^◌, ◌==◌, List, [], length, filter, Option, Some, None, ℤ}
use Rattle.std.specs.List.{range_with_len}
use Rattle.std.specs.Fmt.{signed_decimal}

-- the number, if there is one
abbrev pub constant_text : Option ℤ → List ℕ
constant_text None = []
constant_text (Some c) = signed_decimal c

-- the variables of a set of bits from one on
abbrev pub members_from : List (List ℕ) → (bits first : ℕ) → List ℕ
members_from names bits first =
    filter (λ k. bits / 2 ^ k % 2 == 1) (range_with_len first (length names - first))
