-- Numbers that words write in decimal digits.
use Rattle.std.proofs.Common.{◌≡◌, ℕ, zero, suc, ◌+◌, ◌<◌, ◌≤◌, ◌^◌, Bool, true, false, cond, List, refl, sym, ap, ◌∙◌, subst, arith}
use Rattle.std.specs.Prelude.{Result, Ok, Option, Some, None, not, bytes_eq, decimal}
use Rattle.std.specs.List.{find, range_with_len}
use Rattle.std.specs.Str.Parse.{ParsesUnsigned}
use Rattle.std.proofs.lemmas.Fmt.{decimal_injective, parse-decimal}
use Rattle.std.proofs.lemmas.Slice.Eq.{bytes_eq-Decides}
use Rattle.wpds_base.specs.Limits.{most_rungs}
use Rattle.command_words.specs.Commands.{number_up_to}

-- the first of these numbers that a word writes
abbrev first_named : List ℕ → ℕ → ℕ → Option ℕ
first_named w k n = find (λ j. bytes_eq w (decimal j)) (range_with_len k n)

named_is : (w : List ℕ) (k n m : ℕ) → first_named w k n ≡ Some m → (k ≤ m) × (m < k + n) × (w ≡ decimal m)
named_is w k zero m is = absurd (let bad : None ≡ Some m = is in cc)
named_is w k (suc n) m is = go (named_is w (k + 1) n m) (bytes_eq w (decimal k)) refl is
  where
    go : (first_named w (k + 1) n ≡ Some m → (k + 1 ≤ m) × (m < (k + 1) + n) × (w ≡ decimal m)) → (b : Bool) → bytes_eq w (decimal k) ≡ b
        → cond b (Some k) (first_named w (k + 1) n) ≡ Some m → (k ≤ m) × (m < k + suc n) × (w ≡ decimal m)
    go more true e is = let same : k ≡ m = cc in (omega (arith, same), omega (arith, same), (bytes_eq-Decides w (decimal k)).0 e ∙ ap decimal same)
    go more false e is = let rest = more is in (omega (arith, rest.0), omega (arith, rest.1), rest.2)

is_named : (k n i : ℕ) → i < n → k + n < 2 ^ 64 → first_named (decimal (k + i)) k n ≡ Some (k + i)
is_named k zero i within small = absurd (omega (arith, within))
is_named k (suc n) i within small = go (λ j below. is_named (k + 1) n j below (omega (arith, small))) i within (bytes_eq (decimal (k + i)) (decimal k)) refl
  where
    go : ((j : ℕ) → j < n → first_named (decimal ((k + 1) + j)) (k + 1) n ≡ Some ((k + 1) + j)) → (j : ℕ) → j < suc n → (b : Bool) → bytes_eq (decimal (k + j)) (decimal k) ≡ b → cond b (Some k) (first_named (decimal (k + j)) (k + 1) n) ≡ Some (k + j)
    go more j within true e =
        ap Some (sym (decimal_injective (k + j) k (omega (arith, within, small)) (omega (arith, small)) ((bytes_eq-Decides (decimal (k + j)) (decimal k)).0 e)))
    go more zero within false e =
        let same : decimal (k + 0) ≡ decimal k = ap decimal (omega arith) in
        let there = (bytes_eq-Decides (decimal (k + 0)) (decimal k)).1 same in
        absurd (let bad : true ≡ false = sym there ∙ e in cc)
    go more (suc j) within false e =
        let same : (k + 1) + j ≡ k + suc j = omega arith in
        subst (λ m. first_named (decimal m) (k + 1) n ≡ Some m) same (more j (omega (arith, within)))

number_is : (most : ℕ) (w : List ℕ) (n : ℕ) → number_up_to most w ≡ Some n → (1 ≤ n) × (n ≤ most) × (w ≡ decimal n)
unfolding number_up_to
number_is most w n is = let named = named_is w 1 most n is in (named.0, omega (arith, named.1), named.2)

pub is_number : (most n : ℕ) → most ≤ most_rungs → 1 ≤ n → n ≤ most → number_up_to most (decimal n) ≡ Some n
unfolding number_up_to
is_number most zero few positive within = absurd (omega (arith, positive))
is_number most (suc n) few positive within =
    let same : 1 + n ≡ suc n = omega arith in
    subst (λ m. number_up_to most (decimal m) ≡ Some m) same (is_named 1 most n (omega (arith, within)) (omega (arith, few)))

-- a word that is parsed to no number up to the most, or is not written as its digits, writes none
pub unnamed : {E : Type 0} (most : ℕ) (w : List ℕ) (r : Result ℕ E) → most ≤ most_rungs → ParsesUnsigned 32 10 w r
    → ((n : ℕ) → r ≡ Ok n → 1 ≤ n → n ≤ most → w ≡ decimal n → ⊥) → None ≡ number_up_to most w
unnamed most w r few parses none = go (number_up_to most w) refl
  where
    go : (o : Option ℕ) → number_up_to most w ≡ o → None ≡ o
    go None is = refl
    go (Some n) is =
        let named = number_is most w n is in
        let small : n ≤ most_rungs = omega (arith, named.1, few) in
        absurd (none n (parse-decimal 32 n w r (omega (arith, small)) (omega (arith, small)) named.2 parses) named.0 named.1 named.2)

-- two texts by the test whether they differ
pub are_same : (x y : List ℕ) → false ≡ not (bytes_eq x y) → x ≡ y
are_same x y is = go (bytes_eq x y) refl is
  where
    go : (b : Bool) → bytes_eq x y ≡ b → false ≡ not b → x ≡ y
    go true e is = (bytes_eq-Decides x y).0 e
    go false e is = cc

pub are_other : (x y : List ℕ) → true ≡ not (bytes_eq x y) → x ≡ y → ⊥
are_other x y is same = go (bytes_eq x y) ((bytes_eq-Decides x y).1 same) is
  where
    go : (b : Bool) → b ≡ true → true ≡ not b → ⊥
    go true e is = cc
    go false e is = cc
