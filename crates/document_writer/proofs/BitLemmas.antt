-- Sets of variables, as bits.
use Rattle.std.proofs.Common.{◌≡◌, ◌<◌, ◌≤◌, ◌/◌, ◌%◌, ◌^◌, ◌==◌, ℕ, false, refl, sym, subst, zero-add, arith}
use Rattle.std.proofs.Math.Pow.{pow_mono}
use Rattle.std.proofs.lemmas.Nat.{shr_below}

-- a number has no bit past its width
pub none_past : (w n k : ℕ) → n < 2 ^ w → w ≤ k → (n / 2 ^ k % 2 == 1) ≡ false
none_past w n k small past =
    let wide : n < 2 ^ k = omega (arith, pow_mono past) in
    let below : n / 2 ^ k < 2 ^ 0 = shr_below n 0 k (subst (λ j. n < 2 ^ j) (sym (zero-add k)) wide) in
    let none : n / 2 ^ k ≡ 0 = omega arith in
    rw none refl
