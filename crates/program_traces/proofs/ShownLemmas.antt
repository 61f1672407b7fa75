-- The bits of a setting as a number, one bit more at a time, from the highest.
use Rattle.std.proofs.Common.{◌≡◌, ℕ, suc, ◌+◌, ◌-◌, ◌*◌, ◌<◌, Bool, List, length, sym, ap, ◌∙◌, arith}
use Rattle.std.specs.Prelude.{if◌then◌else◌}
use Rattle.boolean_machine.specs.Picks.{listed}
use Rattle.boolean_meaning.specs.Bits.{number_of}
use Rattle.boolean_meaning.proofs.CallerLemmas.{listed_same, length_listed}

-- the highest `done` bits
abbrev pub highest : (ℕ → Bool) → ℕ → ℕ → ℕ → List Bool
highest f from count done = listed done (λ j. f (from + ((count - done) + j)))

pub highest_next : (f : ℕ → Bool) (from count done : ℕ) → done < count
    → number_of (highest f from count (done + 1)) ≡ (if f (from + ((count - 1) - done)) then 1 else 0) + 2 * number_of (highest f from count done)
highest_next f from count done below =
    let next : done + 1 ≡ suc done = omega arith in
    let first : from + ((count - suc done) + 0) ≡ from + ((count - 1) - done) = omega arith in
    let others : (k : ℕ) → from + ((count - suc done) + suc k) ≡ from + ((count - done) + k) = λ k. omega arith in
    ap (λ i. number_of (highest f from count i)) next
    ∙ ap (λ b. (if b then 1 else 0) + 2 * number_of (listed done (λ k. f (from + ((count - suc done) + suc k))))) (ap f first)
    ∙ ap (λ bs. (if f (from + ((count - 1) - done)) then 1 else 0) + 2 * number_of bs)
    (listed_same done (λ k. f (from + ((count - suc done) + suc k))) (λ k. f (from + ((count - done) + k))) (λ k. ap f (others k)))

pub highest_all : (f : ℕ → Bool) (from count done : ℕ) → count ≡ done → highest f from count done ≡ listed count (λ j. f (from + j))
highest_all f from count done e =
    let same : (k : ℕ) → from + ((count - done) + k) ≡ from + k = λ k. omega arith in
    listed_same done (λ j. f (from + ((count - done) + j))) (λ j. f (from + j)) (λ k. ap f (same k)) ∙ ap (λ n. listed n (λ j. f (from + j))) (sym e)

pub highest_length : (f : ℕ → Bool) (from count done : ℕ) → length (highest f from count done) ≡ done
highest_length f from count done = length_listed done (λ j. f (from + ((count - done) + j)))
