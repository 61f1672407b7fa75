-- Lists of bits stand for all bits that a diagram reads.
use Rattle.std.proofs.Common.{◌≡◌, ℕ, zero, suc, ◌+◌, ◌<◌, ◌≤◌, Bool, List, [], ◌∷◌, refl, sym, ap, ◌∙◌, arith}
use Rattle.std.specs.Prelude.{Some, slice_get}
use Rattle.std.proofs.lemmas.Option.{same_Some}
use Rattle.diagram_store.specs.declared.branch.Branch.{Branch}
use Rattle.diagram_store.specs.Nodes.{IsReduced, HasVariablesBelow}
use Rattle.diagram_store.specs.Meaning.{value_at, bits_of}
use Rattle.diagram_store.proofs.MeaningLemmas.{Same}
use Rattle.diagram_store.proofs.TurnLemmas.{reads_below}

-- the first so many bits, as a list
abbrev first_bits : ℕ → (ℕ → Bool) → List Bool
first_bits zero bits = []
first_bits (suc n) bits = bits 0 ∷ first_bits n (λ k. bits (suc k))

first_bit : (n : ℕ) (bits : ℕ → Bool) (k : ℕ) → k < n → bits_of (first_bits n bits) k ≡ bits k
first_bit zero bits k h = absurd (omega arith)
first_bit (suc n) bits zero h = refl
first_bit (suc n) bits (suc k) h = first_bit n (λ i. bits (suc i)) k (omega arith)

-- a number above each variable
abbrev limit_of : List Branch → ℕ
limit_of [] = 0
limit_of (n ∷ ns) = (n.var + 1) + limit_of ns

limit_above : (nodes : List Branch) (i : ℕ) (n : Branch) → slice_get nodes i ≡ Some n → n.var < limit_of nodes
limit_above [] i n e = cc
limit_above (m ∷ ms) zero n e = let is : m.var ≡ n.var = ap (λ k. k.var) (same_Some m n e) in omega arith
limit_above (m ∷ ms) (suc i) n e = let h = limit_above ms i n e in omega (arith, h)

variables_below : (limit : ℕ) (nodes : List Branch) → limit_of nodes ≤ limit → HasVariablesBelow limit nodes
variables_below limit nodes h zero n e = cc
variables_below limit nodes h (suc zero) n e = cc
variables_below limit nodes h (suc (suc i)) n e = let b = limit_above nodes i n e in omega (arith, b)

-- references with equal values on all lists of bits have equal values
pub same_by_lists : (a : List Branch) → IsReduced a → (r : ℕ) (b : List Branch) → IsReduced b → (s : ℕ)
    → ((list : List Bool) → value_at a r (bits_of list) ≡ value_at b s (bits_of list)) → Same a r b s
same_by_lists a whole r b other s same bits =
    let limit : ℕ = limit_of a + limit_of b in
    let list : List Bool = first_bits limit bits in
    reads_below limit a whole r (variables_below limit a (omega arith)) bits (bits_of list) (λ k h. sym (first_bit limit bits k h))
    ∙ same list
    ∙ reads_below limit b other s (variables_below limit b (omega arith)) (bits_of list) bits (λ k h. first_bit limit bits k h)
