-- The bits of a number are set again one by one.
use Rattle.std.proofs.Common.{◌≡◌, ℕ, zero, suc, ◌+◌, ◌*◌, ◌/◌, ◌%◌, ◌^◌, ◌<◌, ◌≤◌, Bool, true, false, cond, ◌==◌, List, ◌∷◌, refl, sym, ap, ◌∙◌, arith, pow_pos}
use Rattle.std.specs.Prelude.{filter, fold, bit_or}
use Rattle.std.specs.List.{range_with_len}
use Rattle.std.proofs.lemmas.Bool.{eqb-true}
use Rattle.std.proofs.lemmas.List.Elements.{All-nil, All-cons}
use Rattle.std.proofs.lemmas.Nat.{or_disjoint, mod-pow-add}
use Rattle.std.proofs.lemmas.Nat.Bits.{and_pow}
use Rattle.std.proofs.Math.Nat.{div-eq_of_lt, mod-lt, mod-eq_of_lt}
use Rattle.document_forms.specs.Documents.{bits_at}
use Rattle.document_forms.specs.Lawful.{AreBelow}

-- an equation, named
as_said : (T : Type 0) → T → T
as_said T t = t

-- the places of a number's bits, so many from one on
abbrev set_from : (bits from count : ℕ) → List ℕ
set_from bits from count = filter (λ k. bits / 2 ^ k % 2 == 1) (range_with_len from count)

abbrev with_bits : ℕ → List ℕ → ℕ
with_bits b ks = fold (λ n k. bit_or n (2 ^ k)) b ks

module _ (bits : ℕ) where
  high : (a : ℕ) → bits / 2 ^ a % 2 ≡ 1 → bit_or (bits % 2 ^ a) (2 ^ a) ≡ bits % 2 ^ (a + 1)
  high a e =
      let low : bits % 2 ^ a < 2 ^ a = mod-lt bits (pow_pos a) in
      let apart = and_pow (bits % 2 ^ a) a ∙ ap (λ q. q % 2 * 2 ^ a) (div-eq_of_lt low) ∙ as_said (0 % 2 * 2 ^ a ≡ 0) (omega arith) in
      or_disjoint (bits % 2 ^ a) (2 ^ a) apart
      ∙ sym (ap (λ k. bits % 2 ^ k) (as_said (a + 1 ≡ 1 + a) (omega arith)) ∙ mod-pow-add bits 1 a ∙ ap (λ r. r * 2 ^ a + bits % 2 ^ a) e ∙ as_said (1 * 2 ^ a + bits % 2 ^ a ≡ bits % 2 ^ a + 2 ^ a) (omega arith))

  none_high : (a : ℕ) → bits / 2 ^ a % 2 ≡ 0 → bits % 2 ^ a ≡ bits % 2 ^ (a + 1)
  none_high a e = sym (ap (λ k. bits % 2 ^ k) (as_said (a + 1 ≡ 1 + a) (omega arith)) ∙ mod-pow-add bits 1 a ∙ ap (λ r. r * 2 ^ a + bits % 2 ^ a) e ∙ as_said (0 * 2 ^ a + bits % 2 ^ a ≡ bits % 2 ^ a) (omega arith))

  bits_from : (count a : ℕ) → with_bits (bits % 2 ^ a) (set_from bits a count) ≡ bits % 2 ^ (a + count)
  bits_from zero a = ap (λ k. bits % 2 ^ k) (as_said (a ≡ a + 0) (omega arith))
  bits_from (suc n) a = go (bits / 2 ^ a % 2 == 1) refl (bits_from n (a + 1) ∙ rest)
    where
      rest : bits % 2 ^ (a + 1 + n) ≡ bits % 2 ^ (a + suc n)
      rest = ap (λ k. bits % 2 ^ k) (as_said (a + 1 + n ≡ a + suc n) (omega arith))

      go : (t : Bool) → (bits / 2 ^ a % 2 == 1) ≡ t → with_bits (bits % 2 ^ (a + 1)) (set_from bits (a + 1) n) ≡ bits % 2 ^ (a + suc n) → with_bits (bits % 2 ^ a) (cond t (a ∷ set_from bits (a + 1) n) (set_from bits (a + 1) n)) ≡ bits % 2 ^ (a + suc n)
      go true e more = ap (λ b. with_bits b (set_from bits (a + 1) n)) (high a (eqb-true (bits / 2 ^ a % 2) 1 e)) ∙ more
      go false e more = ap (λ b. with_bits b (set_from bits (a + 1) n)) (none_high a (is_zero (bits / 2 ^ a % 2) (mod-lt (bits / 2 ^ a) (omega arith)) e)) ∙ more
        where
          is_zero : (r : ℕ) → r < 2 → (r == 1) ≡ false → r ≡ 0
          is_zero zero l f = refl
          is_zero (suc zero) l f = cc
          is_zero (suc (suc r)) l f = absurd (omega arith)

  pub bits_again : (count : ℕ) → bits < 2 ^ count → bits_at (set_from bits 0 count) ≡ bits
  bits_again count l =
      ap (λ b. with_bits b (set_from bits 0 count)) (as_said (0 ≡ bits % 2 ^ 0) (omega arith))
      ∙ bits_from count 0 ∙ ap (λ k. bits % 2 ^ k) (as_said (0 + count ≡ count) (omega arith)) ∙ mod-eq_of_lt l

  pub set_below : (most a count : ℕ) → a + count ≤ most → AreBelow most (set_from bits a count)
  set_below most a zero l = All-nil (λ k. k < most)
  set_below most a (suc n) l = go (bits / 2 ^ a % 2 == 1) (set_below most (a + 1) n (omega arith))
    where
      go : (t : Bool) → AreBelow most (set_from bits (a + 1) n) → AreBelow most (cond t (a ∷ set_from bits (a + 1) n) (set_from bits (a + 1) n))
      go true m = All-cons (λ k. k < most) a (set_from bits (a + 1) n) (omega arith) m
      go false m = m
