-- How the words of a key are spread.
use Rattle.std.specs.Prelude.{ℕ, ◌+◌, ◌*◌, ◌/◌, ◌%◌, ◌^◌, List, [], ◌∷◌, bit_xor}
use Rattle.std.specs.Int.{w64, from_le_bytes}
use Rattle.std.specs.Borrow.{Bor}

-- a hash with a word mixed in
abbrev pub mixed : ℕ → ℕ → ℕ
mixed hash word =
    let product : ℕ = (bit_xor hash word * 11400714819323198485) % 2 ^ 64 in
    bit_xor product (product / 2 ^ 32)

-- the hash that a key begins with in a round
abbrev pub first_mixed : ℕ → ℕ
first_mixed n = mixed n 1

-- bytes spelled behind a number, in one word
abbrev pub spelled : ℕ → List ℕ → ℕ
spelled n [] = n
spelled n (b ∷ bs) = spelled (((n * 256) % 2 ^ 64 + b) % 2 ^ 64) bs

-- a hash with bytes mixed in, eight at a time, and what is left of them behind a 1
abbrev pub bytes_mixed : ℕ → List ℕ → ℕ
bytes_mixed hash (a ∷ b ∷ c ∷ d ∷ e ∷ f ∷ g ∷ h ∷ bytes) =
    bytes_mixed (mixed hash (from_le_bytes w64 (a ∷ b ∷ c ∷ d ∷ e ∷ f ∷ g ∷ h ∷ []))) bytes
bytes_mixed hash bytes = mixed hash (spelled 1 bytes)

abbrev pub bytes_spread : ℕ → Bor (List ℕ) → ℕ
bytes_spread n slice = bytes_mixed (first_mixed n) slice.now
