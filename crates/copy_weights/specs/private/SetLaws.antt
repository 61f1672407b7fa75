-- Sets of variables as the bits of numbers.
use Rattle.std.proofs.Common.{◌≡◌, ◌≢◌, ℕ, zero, suc, ◌+◌, ◌^◌, ◌<◌, ◌≤◌, max, Bool, true, false, ◌&&◌, ◌||◌, refl, sym, ap, ap₂, ◌∙◌, inl, inr, arith}
use Rattle.std.specs.Prelude.{IsTrue, nat_eq, cond, bit_or}
use Rattle.std.specs.Int.{bit_at}
use Rattle.std.proofs.lemmas.Bool.{cases_eq, cases_lt, and_parts, and_from}
use Rattle.std.proofs.lemmas.Nat.{or_lt}
use Rattle.std.proofs.lemmas.Nat.Bits.{bit_at_or, bit_at-lt, bit_at-zero, bit_at-pow_same, bit_at-pow_other, bit_at_above, same_from_bits, same_from_bits_below}
use Rattle.copy_weights.specs.Forms.{has, set_below}
use Rattle.copy_weights.specs.CopyConst.{each_below, absent}

pub each_gives : (n : ℕ) (p : ℕ → Bool) → IsTrue (each_below n p) → (k : ℕ) → k < n → IsTrue (p k)
each_gives zero p h k b = absurd (omega arith)
each_gives (suc n) p h k b =
    let parts = and_parts (p n) (each_below n p) h in
    elim (cases_eq k n) [
      | inl is ↦ ap p is ∙ parts.0
      | inr apart ↦ each_gives n p parts.1 k (omega arith)
    ]

pub each_from : (n : ℕ) (p : ℕ → Bool) → ((k : ℕ) → k < n → IsTrue (p k)) → IsTrue (each_below n p)
each_from zero p h = refl
each_from (suc n) p h = and_from (p n) (each_below n p) (h n (omega arith)) (each_from n p (λ k b. h k (omega arith)))

bit_max : (p q : ℕ) → p < 2 → q < 2 → nat_eq (max p q) 1 ≡ (nat_eq p 1 || nat_eq q 1)
bit_max zero zero h k = refl
bit_max zero (suc zero) h k = refl
bit_max (suc zero) zero h k = refl
bit_max (suc zero) (suc zero) h k = refl
bit_max (suc (suc p)) q h k = absurd (omega arith)
bit_max zero (suc (suc q)) h k = absurd (omega arith)
bit_max (suc zero) (suc (suc q)) h k = absurd (omega arith)

bit_same : (p q : ℕ) → p < 2 → q < 2 → nat_eq p 1 ≡ nat_eq q 1 → p ≡ q
bit_same zero zero h k e = refl
bit_same zero (suc zero) h k e = cc
bit_same (suc zero) zero h k e = cc
bit_same (suc zero) (suc zero) h k e = refl
bit_same (suc (suc p)) q h k e = absurd (omega arith)
bit_same zero (suc (suc q)) h k e = absurd (omega arith)
bit_same (suc zero) (suc (suc q)) h k e = absurd (omega arith)

pub has_or : (s t i : ℕ) → has (bit_or s t) i ≡ (has s i || has t i)
unfolding has
has_or s t i = ap (λ k. nat_eq k 1) (bit_at_or s t i) ∙ bit_max (bit_at s i) (bit_at t i) (bit_at-lt s i) (bit_at-lt t i)

pub has_zero : (i : ℕ) → has 0 i ≡ false
unfolding has
has_zero i = ap (λ b. nat_eq b 1) (bit_at-zero i)

pub has_pow_same : (k : ℕ) → has (2 ^ k) k ≡ true
unfolding has
has_pow_same k = ap (λ b. nat_eq b 1) (bit_at-pow_same k)

pub has_pow_other : (k i : ℕ) → i ≢ k → has (2 ^ k) i ≡ false
unfolding has
has_pow_other k i h = ap (λ b. nat_eq b 1) (bit_at-pow_other k i h)

pub has_above : (s n i : ℕ) → s < 2 ^ n → n ≤ i → has s i ≡ false
unfolding has
has_above s n i h k = ap (λ b. nat_eq b 1) (bit_at_above s n i h k)

pub sets_same : (s t : ℕ) → ((i : ℕ) → has s i ≡ has t i) → s ≡ t
unfolding has
sets_same s t h = same_from_bits s t (λ i. bit_same (bit_at s i) (bit_at t i) (bit_at-lt s i) (bit_at-lt t i) (h i))

pub sets_same_below : (n s t : ℕ) → s < 2 ^ n → t < 2 ^ n → ((i : ℕ) → i < n → has s i ≡ has t i) → s ≡ t
unfolding has
sets_same_below n s t hs ht h = same_from_bits_below n s t hs ht (λ i b. bit_same (bit_at s i) (bit_at t i) (bit_at-lt s i) (bit_at-lt t i) (h i b))

or_false : (b : Bool) → (b || false) ≡ b
or_false true = refl
or_false false = refl

or_same : (b : Bool) → (b || b) ≡ b
or_same true = refl
or_same false = refl

or_swap : (a b : Bool) → (a || b) ≡ (b || a)
or_swap true true = refl
or_swap true false = refl
or_swap false true = refl
or_swap false false = refl

or_next : (a b c : Bool) → ((a || b) || c) ≡ (a || (b || c))
or_next true b c = refl
or_next false b c = refl

pub set_or_comm : (s t : ℕ) → bit_or s t ≡ bit_or t s
set_or_comm s t = sets_same (bit_or s t) (bit_or t s) (λ i. has_or s t i ∙ or_swap (has s i) (has t i) ∙ sym (has_or t s i))

pub set_or_assoc : (s t u : ℕ) → bit_or (bit_or s t) u ≡ bit_or s (bit_or t u)
set_or_assoc s t u = sets_same (bit_or (bit_or s t) u) (bit_or s (bit_or t u)) (λ i.
    has_or (bit_or s t) u i ∙ ap (λ b. b || has u i) (has_or s t i) ∙ or_next (has s i) (has t i) (has u i) ∙ sym (has_or s (bit_or t u) i ∙ ap (λ b. has s i || b) (has_or t u i)))

pub set_or_same : (s : ℕ) → bit_or s s ≡ s
set_or_same s = sets_same (bit_or s s) s (λ i. has_or s s i ∙ or_same (has s i))

pub set_or_none : (s : ℕ) → bit_or s 0 ≡ s
set_or_none s = sets_same (bit_or s 0) s (λ i. has_or s 0 i ∙ ap (λ b. has s i || b) (has_zero i) ∙ or_false (has s i))

pub set_none_or : (s : ℕ) → bit_or 0 s ≡ s
set_none_or s = set_or_comm 0 s ∙ set_or_none s

pub set_or_below : (n s t : ℕ) → s < 2 ^ n → t < 2 ^ n → bit_or s t < 2 ^ n
set_or_below n s t hs ht = or_lt n s t hs ht

-- ---- the numbers below one that pass a test

and_true : (b : Bool) → (b && true) ≡ b
and_true true = refl
and_true false = refl

and_false : (b : Bool) → (b && false) ≡ false
and_false true = refl
and_false false = refl

has_added : (b : Bool) (k m i : ℕ) → has (cond b (bit_or (2 ^ k) m) m) i ≡ ((b && has (2 ^ k) i) || has m i)
has_added true k m i = has_or (2 ^ k) m i
has_added false k m i = refl

pub set_below_past : (k : ℕ) (test : ℕ → Bool) (i : ℕ) → k ≤ i → has (set_below k test) i ≡ false
unfolding set_below
set_below_past zero test i past = has_zero i
set_below_past (suc k) test i past =
    has_added (test k) k (set_below k test) i
    ∙ ap₂ (λ a b. (test k && a) || b) (has_pow_other k i (λ e. absurd (omega arith))) (set_below_past k test i (omega arith))
    ∙ or_false (test k && false) ∙ and_false (test k)

pub set_below_has : (k : ℕ) (test : ℕ → Bool) (i : ℕ) → i < k → has (set_below k test) i ≡ test i
unfolding set_below
set_below_has zero test i below = absurd (omega arith)
set_below_has (suc k) test i below = has_added (test k) k (set_below k test) i ∙ elim (cases_eq i k) [
  | inl is ↦
      ap₂ (λ a b. (test k && a) || b) (ap (has (2 ^ k)) is ∙ has_pow_same k) (set_below_past k test i (omega arith))
      ∙ or_false (test k && true) ∙ and_true (test k) ∙ ap test (sym is)
  | inr apart ↦ ap₂ (λ a b. (test k && a) || b) (has_pow_other k i apart) (set_below_has k test i (omega arith)) ∙ ap (λ b. b || test i) (and_false (test k))
]

pub set_below_members : (n s : ℕ) → s < 2 ^ n → set_below n (has s) ≡ s
set_below_members n s h = sets_same (set_below n (has s)) s (λ i. elim (cases_lt i n) [
  | inl below ↦ set_below_has n (has s) i below
  | inr past ↦ set_below_past n (has s) i past ∙ sym (has_above s n i h past)
])

-- ---- counting

step_at_most : (a b : Bool) → (IsTrue a → IsTrue b) → (m k : ℕ) → m ≤ k → cond b 0 1 + m ≤ cond a 0 1 + k
step_at_most true true h m k e = omega arith
step_at_most true false h m k e = let f : false ≡ true = h refl in cc
step_at_most false true h m k e = omega arith
step_at_most false false h m k e = omega arith

step_same : (a b : Bool) → (IsTrue a → IsTrue b) → (m k : ℕ) → m ≤ k → cond b 0 1 + m ≡ cond a 0 1 + k → (a ≡ b) × (m ≡ k)
step_same true true h m k low e = (refl, omega (arith, e))
step_same true false h m k low e = let f : false ≡ true = h refl in cc
step_same false true h m k low e = absurd (omega (arith, e))
step_same false false h m k low e = (refl, omega (arith, e))

bit_step : (b : Bool) (m k : ℕ) → m ≤ k → cond b 0 1 + m ≤ suc k
bit_step true m k h = omega arith
bit_step false m k h = omega arith

pub absent_within : (k s : ℕ) → absent k s ≤ k
unfolding absent
absent_within zero s = omega arith
absent_within (suc k) s = bit_step (has s k) (absent k s) k (absent_within k s)

left_true : (a b : Bool) → IsTrue a → IsTrue (a || b)
left_true true b h = refl
left_true false b h = cc

wider : (s t k : ℕ) → IsTrue (has s k) → IsTrue (has (bit_or s t) k)
wider s t k h = has_or s t k ∙ left_true (has s k) (has t k) h

pub absent_at_most : (k s t : ℕ) → absent k (bit_or s t) ≤ absent k s
unfolding absent
absent_at_most zero s t = omega arith
absent_at_most (suc k) s t = step_at_most (has s k) (has (bit_or s t) k) (wider s t k) (absent k (bit_or s t)) (absent k s) (absent_at_most k s t)

absent_same : (k s t : ℕ) → absent k (bit_or s t) ≡ absent k s → (i : ℕ) → i < k → has s i ≡ has (bit_or s t) i
unfolding absent
absent_same zero s t e i below = absurd (omega arith)
absent_same (suc k) s t e i below =
    let parts = step_same (has s k) (has (bit_or s t) k) (wider s t k) (absent k (bit_or s t)) (absent k s) (absent_at_most k s t) e in
    elim (cases_eq i k) [
      | inl is ↦ ap (has s) is ∙ parts.0 ∙ ap (has (bit_or s t)) (sym is)
      | inr apart ↦ absent_same k s t parts.1 i (omega arith)
    ]

pub union_same : (n s t : ℕ) → s < 2 ^ n → t < 2 ^ n → absent n (bit_or s t) ≡ absent n s → bit_or s t ≡ s
union_same n s t hs ht e = sets_same_below n (bit_or s t) s (set_or_below n s t hs ht) hs (λ i b. sym (absent_same n s t e i b))
