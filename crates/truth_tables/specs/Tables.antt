-- Operators given by their tables.
use Rattle.std.specs.Prelude.{ℕ, ◌+◌, ◌*◌, ◌/◌, ◌%◌, ◌^◌, ◌==◌, Bool, true, false}

-- the value of a table at a place: its bit there
abbrev pub value_bit : ℕ → ℕ → Bool
value_bit table place = table / 2 ^ place % 2 == 1

abbrev pub bit_of : Bool → ℕ
bit_of false = 0
bit_of true = 1

-- an operator of two places
abbrev pub value2_of : ℕ → Bool → Bool → Bool
value2_of table a b = value_bit table (2 * bit_of a + bit_of b)

-- an operator of three places
abbrev pub value3_of : ℕ → Bool → Bool → Bool → Bool
value3_of table a b c = value_bit table (4 * bit_of a + 2 * bit_of b + bit_of c)
