-- The list of all numbers below a count.
use Rattle.std.proofs.Common.{◌≡◌, ℕ, zero, suc, ◌+◌, ◌<◌, ◌≤◌, Bool, true, false, length, refl, sym, ap, ◌∙◌, arith}
use Rattle.std.specs.Prelude.{◌||◌, nat_eq, nat_lt, Some, IsTrue, slice_get}
use Rattle.std.specs.List.{range_with_len, AllByRecursion}
use Rattle.std.proofs.lemmas.Bool.{eqb-true}
use Rattle.std.proofs.lemmas.Bool.Decides.{nat_tests}
use Rattle.std.proofs.lemmas.List.Elements.{All-from_recursion}
use Rattle.std.proofs.lemmas.List.FromFn.{length-range_with_len}
use Rattle.config_patterns.specs.Membership.{has_symbol}
use Rattle.config_patterns.specs.Validity.{is_set}
use Rattle.config_patterns.specs.private.Counted.{IsCounted}

pub at_range : (n a k : ℕ) → k < n → slice_get (range_with_len a n) k ≡ Some (a + k)
at_range zero a k low = absurd (omega arith)
at_range (suc n) a zero low = let same : a ≡ a + 0 = omega arith in ap Some same
at_range (suc n) a (suc k) low =
    let same : (a + 1) + k ≡ a + suc k = omega arith in
    at_range n (a + 1) k (omega arith) ∙ ap Some same

pub at_all : (n k : ℕ) → k < length (range_with_len 0 n) → slice_get (range_with_len 0 n) k ≡ Some k
at_all n k low =
    let same : 0 + k ≡ k = omega arith in
    at_range n 0 k (omega (arith, length-range_with_len 0 n)) ∙ ap Some same

first_or_later : (n a g : ℕ) → a ≤ g → (a + 1 ≤ g → has_symbol g (range_with_len (a + 1) n) ≡ nat_lt g ((a + 1) + n)) → (b : Bool) → nat_eq a g ≡ b
    → (b || has_symbol g (range_with_len (a + 1) n)) ≡ nat_lt g (a + suc n)
first_or_later n a g from rest true is = let same : a ≡ g = eqb-true a g is in grind (arith, nat_tests)
first_or_later n a g from rest false is =
    let above : a + 1 ≤ g = grind (arith, nat_tests) in
    let end : (a + 1) + n ≡ a + suc n = omega arith in
    rest above ∙ ap (nat_lt g) end

has_range : (n a g : ℕ) → a ≤ g → has_symbol g (range_with_len a n) ≡ nat_lt g (a + n)
has_range zero a g from = grind (arith, nat_tests)
has_range (suc n) a g from = first_or_later n a g from (has_range n (a + 1) g) (nat_eq a g) refl

pub has_all : (n g : ℕ) → has_symbol g (range_with_len 0 n) ≡ nat_lt g n
has_all n g = let same : 0 + n ≡ n = omega arith in has_range n 0 g (omega arith) ∙ ap (nat_lt g) same

same_test : (n m : ℕ) → n ≡ m → nat_eq n m ≡ true
same_test n m same = grind (arith, nat_tests)

pub same_count : (n m : ℕ) → range_with_len 0 n ≡ range_with_len 0 m → IsTrue (nat_eq n m)
same_count n m same = same_test n m (sym (length-range_with_len 0 n) ∙ ap length same ∙ length-range_with_len 0 m)

below : (n a k : ℕ) → a + k ≤ n → AllByRecursion (λ g. g < n) (range_with_len a k)
below n a zero low = tt
below n a (suc k) low = (omega arith, below n (a + 1) k (omega arith))

-- each is below the count
pub all_counted : (n : ℕ) → IsCounted n n (range_with_len 0 n)
all_counted n = record { size = length-range_with_len 0 n; low = All-from_recursion (λ g. g < n) (range_with_len 0 n) (below n 0 n (omega arith)) }

not_among : (g a k : ℕ) → g < a → has_symbol g (range_with_len a k) ≡ false
not_among g a zero low = refl
not_among g a (suc k) low = let apart : nat_eq a g ≡ false = grind (arith, nat_tests) in rw (apart, not_among g (a + 1) k (omega arith)) refl

once : (a k : ℕ) → is_set (range_with_len a k) ≡ true
once a zero = refl
once a (suc k) = rw (not_among a (a + 1) k (omega arith), once (a + 1) k) refl

-- none stands twice
pub all_once : (n : ℕ) → is_set (range_with_len 0 n) ≡ true
all_once n = once 0 n
