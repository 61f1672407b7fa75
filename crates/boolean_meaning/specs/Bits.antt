-- Numbers that hold bits, the first bit being the lowest.
use Rattle.std.specs.Prelude.{ℕ, zero, suc, ◌+◌, ◌*◌, ◌/◌, ◌%◌, Bool, List, [], ◌∷◌, nat_eq, if◌then◌else◌}

abbrev pub is_odd : ℕ → Bool
is_odd n = nat_eq (n % 2) 1

-- the bit of a number at a place
abbrev pub bit_of : ℕ → ℕ → Bool
bit_of n zero = is_odd n
bit_of n (suc k) = bit_of (n / 2) k

-- the number that has these bits, the further ones being 0
abbrev pub number_of : List Bool → ℕ
number_of [] = 0
number_of (b ∷ bs) = (if b then 1 else 0) + 2 * number_of bs
