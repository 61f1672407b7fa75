-- Numbers by their digits.
use Rattle.std.proofs.Common.{◌≡◌, ℕ, ◌+◌, ◌*◌, ◌-◌, ◌^◌, ◌≤◌, ◌<◌, Bool, true, false, List, [], ◌∷◌, Option, Some, None, refl, ap, subst, arith}
use Rattle.std.specs.Prelude.{nat_lt, if◌then◌else◌}
use Rattle.std.proofs.lemmas.Bool.{ltb-true, ltb-false}
use Rattle.truth_tables.specs.Grammar.{number_of, number_onto}
use Rattle.rule_reader.specs.Digits.{as_u64}

-- more digits make no number smaller
pub onto_grows : (n : ℕ) (ds : List ℕ) → n ≤ number_onto n ds
onto_grows n [] = omega arith
onto_grows n (d ∷ ds) = let more = onto_grows (10 * n + (d - 48)) ds in omega arith

narrow_none : (m n : ℕ) → m ≤ n → None ≡ as_u64 m → None ≡ as_u64 n
narrow_none m n l e = go (nat_lt m (2 ^ 64)) (nat_lt n (2 ^ 64)) refl refl e
  where
    go : (s t : Bool) → nat_lt m (2 ^ 64) ≡ s → nat_lt n (2 ^ 64) ≡ t → ◌≡◌ {A = Option ℕ} None (if s then Some m else None) → ◌≡◌ {A = Option ℕ} None (if t then Some n else None)
    go true t f g h = cc
    go false false f g h = refl
    go false true f g h = absurd (omega (arith, ltb-true n (2 ^ 64) g, ltb-false m (2 ^ 64) f))

-- a digit behind which the number is too wide
pub stays_wide : (n d : ℕ) (ds all : List ℕ) → number_onto n (d ∷ ds) ≡ number_of all → None ≡ as_u64 (10 * n + (d - 48)) → None ≡ as_u64 (number_of all)
stays_wide n d ds all same e = subst (λ m. None ≡ as_u64 m) same (narrow_none (10 * n + (d - 48)) (number_onto n (d ∷ ds)) (onto_grows (10 * n + (d - 48)) ds) e)

pub narrow_some : (m n : ℕ) → m ≡ n → m < 2 ^ 64 → Some m ≡ as_u64 n
narrow_some m n same few = go (nat_lt n (2 ^ 64)) refl
  where
    go : (t : Bool) → nat_lt n (2 ^ 64) ≡ t → Some m ≡ (if t then Some n else None)
    go true f = ap Some same
    go false f = absurd (omega (arith, ltb-false n (2 ^ 64) f))
