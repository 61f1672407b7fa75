-- Lists of bits.
use Rattle.std.proofs.Common.{◌≡◌, ℕ, zero, suc, ◌+◌, ◌-◌, ◌<◌, ◌≤◌, Bool, true, false, not, List, [], ◌∷◌, length, refl, sym, ap, ap₂, ◌∙◌, arith, nat_lt, ◌⊎◌, inl, inr}
use Rattle.std.specs.Prelude.{slice_index_or}
use Rattle.std.proofs.lemmas.Bool.Decides.{nat_tests}
use Rattle.std.proofs.lemmas.List.{get_or_append_left, get_or-append_right}
use Rattle.truth_tables.specs.Formulas.{Formula, Constant, Variable, Opposite, Binary, Ternary, value_under}
use Rattle.truth_tables.specs.Tables.{value2_of, value3_of}
use Rattle.boolean_machine.specs.Machine.{bits, value_at}
use Rattle.boolean_machine.specs.Picks.{listed}

-- a test on numbers, either way
pub below_or : (a b : ℕ) → (a < b) ⊎ (b ≤ a)
below_or a b = by_test (nat_lt a b) refl
  where
    by_test : (t : Bool) → nat_lt a b ≡ t → (a < b) ⊎ (b ≤ a)
    by_test true e = inl (grind (arith, nat_tests))
    by_test false e = inr (grind (arith, nat_tests))

pub length_listed : (n : ℕ) (f : ℕ → Bool) → length (listed n f) ≡ n
length_listed zero f = refl
length_listed (suc n) f = ap suc (length_listed n (λ k. f (suc k)))

pub bit_listed : (n k : ℕ) (f : ℕ → Bool) → k < n → slice_index_or (listed n f) k false ≡ f k
bit_listed zero k f h = absurd (omega arith)
bit_listed (suc n) zero f h = refl
bit_listed (suc n) (suc k) f h = bit_listed n k (λ j. f (suc j)) (omega arith)

-- bits that are those of a function are its list
pub listed_is : (xs : List Bool) (f : ℕ → Bool) → ((k : ℕ) → k < length xs → f k ≡ slice_index_or xs k false) → xs ≡ listed (length xs) f
listed_is [] f same = refl
listed_is (x ∷ xs) f same =
    ap₂ (λ (y : Bool) (ys : List Bool). y ∷ ys) (sym (same 0 (omega arith))) (listed_is xs (λ k. f (suc k)) (λ k h. same (suc k) (omega arith)))

pub bit_global : (gs ls : List Bool) (k : ℕ) → k < length gs → bits gs ls k ≡ slice_index_or gs k false
bit_global gs ls k h = get_or_append_left gs ls false k h

pub bit_local : (gs ls : List Bool) (k : ℕ) → length gs ≤ k → bits gs ls k ≡ slice_index_or ls (k - length gs) false
bit_local gs ls k h = get_or-append_right gs ls (length gs) k false refl h

-- globals and locals that are listed by the names
pub bits_listed : (g l : ℕ) (f : ℕ → Bool) (k : ℕ) → k < g + l → bits (listed g f) (listed l (λ j. f (g + j))) k ≡ f k
bits_listed g l f k h = by_case (below_or k g)
  where
    by_case : ((k < g) ⊎ (g ≤ k)) → bits (listed g f) (listed l (λ j. f (g + j))) k ≡ f k
    by_case (inl b) =
        let long = length_listed g f in
        bit_global (listed g f) (listed l (λ j. f (g + j))) k (omega arith) ∙ bit_listed g k f b
    by_case (inr b) =
        let long = length_listed g f in
        let same : g + (k - length (listed g f)) ≡ k = omega arith in
        bit_local (listed g f) (listed l (λ j. f (g + j))) k (omega arith) ∙ bit_listed l (k - length (listed g f)) (λ j. f (g + j)) (omega arith) ∙ ap f same

-- the value of a formula under a list of bits
pub value_of_list : (xs : List Bool) (f : Formula ℕ) → value_under xs f ≡ value_at (λ k. slice_index_or xs k false) f
value_of_list xs (Constant b) = refl
value_of_list xs (Variable k) = refl
value_of_list xs (Opposite f) = ap not (value_of_list xs f)
value_of_list xs (Binary t f g) = ap₂ (value2_of t) (value_of_list xs f) (value_of_list xs g)
value_of_list xs (Ternary t f g h) =
    ap₂ (λ u v. value3_of t u v (value_under xs h)) (value_of_list xs f) (value_of_list xs g)
    ∙ ap (value3_of t (value_at (λ k. slice_index_or xs k false) f) (value_at (λ k. slice_index_or xs k false) g)) (value_of_list xs h)
