-- Bits and the numbers that hold them.
use Rattle.std.proofs.Common.{◌≡◌, ℕ, zero, suc, ◌+◌, ◌*◌, ◌/◌, ◌%◌, ◌^◌, ◌<◌, ◌≤◌, Bool, true, false, List, [], ◌∷◌, length, refl, ap, ap₂, ◌∙◌, arith}
use Rattle.std.specs.Prelude.{if◌then◌else◌}
use Rattle.std.proofs.lemmas.Bool.Decides.{nat_tests}
use Rattle.std.proofs.lemmas.Nat.{pow_below}
use Rattle.boolean_machine.specs.Picks.{listed}
use Rattle.boolean_meaning.specs.Bits.{is_odd, bit_of, number_of}

-- ---- halves

odd_half : (m : ℕ) → (1 + 2 * m) / 2 ≡ m
odd_half m = omega arith

even_half : (m : ℕ) → (0 + 2 * m) / 2 ≡ m
even_half m = omega arith

is_odd_odd : (m : ℕ) → is_odd (1 + 2 * m) ≡ true
is_odd_odd m = let e : (1 + 2 * m) % 2 ≡ 1 = omega arith in grind (arith, nat_tests)

is_odd_even : (m : ℕ) → is_odd (0 + 2 * m) ≡ false
is_odd_even m = let e : (0 + 2 * m) % 2 ≡ 0 = omega arith in grind (arith, nat_tests)

-- the bits of the number of bits
pub bits_of_number : (bs : List Bool) → listed (length bs) (bit_of (number_of bs)) ≡ bs
bits_of_number [] = refl
bits_of_number (true ∷ bs) =
    ap₂ (λ (b : Bool) (cs : List Bool). b ∷ cs) (is_odd_odd (number_of bs))
    (ap (λ n. listed (length bs) (bit_of n)) (odd_half (number_of bs)) ∙ bits_of_number bs)
bits_of_number (false ∷ bs) =
    ap₂ (λ (b : Bool) (cs : List Bool). b ∷ cs) (is_odd_even (number_of bs))
    (ap (λ n. listed (length bs) (bit_of n)) (even_half (number_of bs)) ∙ bits_of_number bs)

-- the number of the bits of a number that has no further ones
pub number_of_bits : (k n : ℕ) → n < 2 ^ k → number_of (listed k (bit_of n)) ≡ n
number_of_bits zero n h = omega arith
number_of_bits (suc k) n h =
    let more = number_of_bits k (n / 2) (half_below n (2 ^ k) (double k h)) in by_bit (is_odd n) refl more
  where
    double : (k : ℕ) → n < 2 ^ suc k → n < 2 * 2 ^ k
    double k h = omega arith

    half_below : (n m : ℕ) → n < 2 * m → n / 2 < m
    half_below n m h = omega arith

    by_bit : (b : Bool) → is_odd n ≡ b → number_of (listed k (bit_of (n / 2))) ≡ n / 2 → (if is_odd n then 1 else 0) + 2 * number_of (listed k (bit_of (n / 2))) ≡ n
    by_bit true e more =
        let odd : n % 2 ≡ 1 = grind (arith, nat_tests) in
        rw (e, more) (let same : 1 + 2 * (n / 2) ≡ n = omega arith in same)
    by_bit false e more =
        let even : n % 2 ≡ 0 = grind (arith, nat_tests) in
        rw (e, more) (let same : 0 + 2 * (n / 2) ≡ n = omega arith in same)

pub number_below : (bs : List Bool) → number_of bs < 2 ^ length bs
number_below [] = omega arith
number_below (true ∷ bs) = let more = number_below bs in let e : 2 ^ suc (length bs) ≡ 2 * 2 ^ length bs = omega arith in omega arith
number_below (false ∷ bs) = let more = number_below bs in let e : 2 ^ suc (length bs) ≡ 2 * 2 ^ length bs = omega arith in omega arith

-- a number whose further bits are 0
pub no_more_bits : (n k : ℕ) → n / 2 ^ k ≡ 0 → n < 2 ^ k
no_more_bits n k e = let p : 0 < 2 ^ k = pow_positive k in below n (2 ^ k) p e
  where
    below : (n m : ℕ) → 0 < m → n / m ≡ 0 → n < m
    below n m p e =
        let none : m * (n / m) ≡ m * 0 = ap (λ k. m * k) e in
        let zero : m * 0 ≡ 0 = omega arith in
        let full : m * (n / m) + n % m ≡ n = omega arith in
        let rest : n % m < m = omega arith in
        omega arith

    pow_positive : (k : ℕ) → 0 < 2 ^ k
    pow_positive zero = omega arith
    pow_positive (suc k) = let more = pow_below 0 (suc k) (omega arith) in omega arith

pub no_bits_more : (n k : ℕ) → n < 2 ^ k → n / 2 ^ k ≡ 0
no_bits_more n k h = div_small n (2 ^ k) h
  where
    div_small : (n m : ℕ) → n < m → n / m ≡ 0
    div_small n m h = let p : 0 < m = omega arith in by_quotient (n / m) refl
      where
        by_quotient : (q : ℕ) → n / m ≡ q → n / m ≡ 0
        by_quotient zero e = e
        by_quotient (suc q) e = let full : m * (n / m) + n % m ≡ n = omega arith in let more : m * (n / m) ≡ m * suc q = ap (λ k. m * k) e in absurd (omega arith)

-- few bits have a small number
pub number_fits : (bs : List Bool) → length bs ≤ 24 → number_of bs < 2 ^ 25
number_fits bs h =
    let small = number_below bs in
    let more = pow_below (length bs) 25 (omega arith) in
    omega arith
