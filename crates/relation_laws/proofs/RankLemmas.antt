-- The rank of a relation: it never rises under union, and falls where the union differs.
use Rattle.std.proofs.Common.{◌≡◌, ◌≢◌, ℕ, zero, suc, ◌*◌, ◌^◌, ◌<◌, ◌≤◌, Bool, true, false, List, [], ◌∷◌, ◌++◌, append_assoc, pow-suc, refl, sym, ap, ◌∙◌, subst, inl, inr, arith}
use Rattle.std.specs.Prelude.{IsTrue}
use Rattle.std.proofs.lemmas.Bool.{cases_lt, or_left}
use Rattle.diagram_store.specs.Meaning.{bits_of}
use Rattle.diagram_store.proofs.CallerLemmas.{reads_below}
use Rattle.diagram_ops.specs.Relations.{of_states}
use Rattle.diagram_ops.proofs.CallerLemmas.{same_bits}
use Rattle.relation_laws.specs.Building.{Parts}
use Rattle.relation_laws.specs.States.{old_state, new_state}
use Rattle.relation_laws.specs.Relations.{leads, union, no_pairs}
use Rattle.relation_laws.specs.Ranks.{if_refused, refused, is_pair, pairs_outside}
use Rattle.relation_laws.proofs.StateLemmas.{states_of_bits}
use Rattle.relation_laws.proofs.PairLemmas.{FitsIn, combined, nothing, leads_combined, leads_nothing, same_relation, fits_canonical, fits_below, relation_fits}

-- ---- counting what a test refuses

-- the second test is true where the first is
abbrev Weaker : (List Bool → Bool) → (List Bool → Bool) → Type 0
Weaker p q = (bits : List Bool) → IsTrue (p bits) → IsTrue (q bits)

one_at_most : (a b : Bool) → (IsTrue a → IsTrue b) → if_refused b ≤ if_refused a
one_at_most true true h = omega arith
one_at_most true false h = let e : false ≡ true = h refl in cc
one_at_most false true h = omega arith
one_at_most false false h = omega arith

refused_at_most : (k : ℕ) (p q : List Bool → Bool) → Weaker p q → (bits : List Bool) → refused k q bits ≤ refused k p bits
unfolding refused
refused_at_most zero p q weaker bits = one_at_most (p bits) (q bits) (weaker bits)
refused_at_most (suc k) p q weaker bits =
    let a = refused_at_most k p q weaker (bits ++ false ∷ []) in
    let b = refused_at_most k p q weaker (bits ++ true ∷ []) in
    omega (arith, a, b)

same_one : (a b : Bool) → if_refused b ≡ if_refused a → a ≡ b
same_one true true e = refl
same_one true false e = absurd (omega (arith, e))
same_one false true e = absurd (omega (arith, e))
same_one false false e = refl

-- a list with so many more bits
abbrev Extends : ℕ → List Bool → List Bool → Type 0
Extends zero bits longer = bits ≡ longer
Extends (suc k) bits longer = (b : Bool) × Extends k (bits ++ b ∷ []) longer

-- the tests agree on a list that goes on with either bit
same_after : (p q : List Bool → Bool) (k : ℕ) (bits longer : List Bool) (b : Bool)
    → (Extends k (bits ++ false ∷ []) longer → p longer ≡ q longer) → (Extends k (bits ++ true ∷ []) longer → p longer ≡ q longer)
    → Extends k (bits ++ b ∷ []) longer → p longer ≡ q longer
same_after p q k bits longer false low high more = low more
same_after p q k bits longer true low high more = high more

append_nil : (bits : List Bool) → bits ++ [] ≡ bits
append_nil [] = refl
append_nil (b ∷ bits) = ap (λ l. b ∷ l) (append_nil bits)

-- where as many are refused, the tests agree on each list with so many bits
refused_same : (k : ℕ) (p q : List Bool → Bool) → Weaker p q → (bits longer : List Bool) → refused k q bits ≡ refused k p bits → Extends k bits longer → p longer ≡ q longer
unfolding refused
refused_same zero p q weaker bits longer e is = ap p (sym is) ∙ same_one (p bits) (q bits) e ∙ ap q is
refused_same (suc k) p q weaker bits longer e more =
    let a = refused_at_most k p q weaker (bits ++ false ∷ []) in
    let b = refused_at_most k p q weaker (bits ++ true ∷ []) in
    let low : refused k q (bits ++ false ∷ []) ≡ refused k p (bits ++ false ∷ []) = omega (arith, a, b, e) in
    let high : refused k q (bits ++ true ∷ []) ≡ refused k p (bits ++ true ∷ []) = omega (arith, a, b, e) in
    same_after p q k bits longer more.0 (refused_same k p q weaker (bits ++ false ∷ []) longer low) (refused_same k p q weaker (bits ++ true ∷ []) longer high) more.1

refused_none : (k : ℕ) (p : List Bool → Bool) → ((bits : List Bool) → p bits ≡ false) → (bits : List Bool) → refused k p bits ≡ 2 ^ k
unfolding refused
refused_none zero p none bits = ap (λ b. if_refused b) (none bits)
refused_none (suc k) p none bits =
    let a = refused_none k p none (bits ++ false ∷ []) in
    let b = refused_none k p none (bits ++ true ∷ []) in
    let two : 2 ^ suc k ≡ 2 ^ k * 2 = pow-suc 2 k in
    omega (arith, a, b, two)

-- ---- all lists of so many bits

-- the list of the first bits up to a number
abbrev first_bits : ℕ → (ℕ → Bool) → List Bool
first_bits zero bits = []
first_bits (suc n) bits = bits 0 ∷ first_bits n (λ k. bits (suc k))

first_bit : (n : ℕ) (bits : ℕ → Bool) (k : ℕ) → k < n → bits_of (first_bits n bits) k ≡ bits k
first_bit zero bits k h = absurd (omega arith)
first_bit (suc n) bits zero h = refl
first_bit (suc n) bits (suc k) h = first_bit n (λ i. bits (suc i)) k (omega arith)

extends_by : (k : ℕ) (front : List Bool) (bits : ℕ → Bool) → Extends k front (front ++ first_bits k bits)
extends_by zero front bits = sym (append_nil front)
extends_by (suc k) front bits =
    let P : List Bool → Type 0 = λ l. Extends k (front ++ bits 0 ∷ []) l in
    (bits 0, subst P (append_assoc front (bits 0 ∷ []) (first_bits k (λ i. bits (suc i)))) (extends_by k (front ++ bits 0 ∷ []) (λ i. bits (suc i))))

-- ---- the rank

module _ (n : ℕ) (a b : Parts) (fa : FitsIn n a) (fb : FitsIn n b) where
  weaker : Weaker (is_pair a) (is_pair (combined n a b))
  weaker bits h =
      let x = old_state (bits_of bits) in
      let y = new_state (bits_of bits) in
      let at = λ (w : Parts) (f : FitsIn n w). same_bits w.nodes (fits_canonical n w f).reduced w.root (of_states x y) (bits_of bits) (states_of_bits (bits_of bits)) in
      sym (at (combined n a b) (relation_fits n (union (leads a) (leads b))))
      ∙ leads_combined n a b fa fb x y
      ∙ or_left (leads a x y) (leads b x y) (at a fa ∙ h)

  pub outside_never_rises : pairs_outside n (combined n a b) ≤ pairs_outside n a
  outside_never_rises = refused_at_most (2 * n) (is_pair a) (is_pair (combined n a b)) weaker []

  same_outside : pairs_outside n (combined n a b) ≡ pairs_outside n a → combined n a b ≡ a
  same_outside e =
      let fc = relation_fits n (union (leads a) (leads b)) in
      same_relation n (combined n a b) a fc fa (λ x y.
      let bits : ℕ → Bool = of_states x y in
      let list : List Bool = first_bits (2 * n) bits in
      let at = λ (w : Parts) (f : FitsIn n w). reads_below (2 * n) w.nodes (fits_canonical n w f).reduced w.root (fits_below n w f) bits (bits_of list) (λ k below. sym (first_bit (2 * n) bits k below)) in
      at (combined n a b) fc
      ∙ sym (refused_same (2 * n) (is_pair a) (is_pair (combined n a b)) weaker [] list e (extends_by (2 * n) [] bits))
      ∙ sym (at a fa))

  pub outside_falls : combined n a b ≢ a → pairs_outside n (combined n a b) < pairs_outside n a
  outside_falls differs = elim (cases_lt (pairs_outside n (combined n a b)) (pairs_outside n a)) [
    | inl less ↦ less
    | inr more ↦ let low = outside_never_rises in absurd (differs (same_outside (omega (arith, low, more))))
  ]

pub outside_nothing : (n : ℕ) → pairs_outside n (nothing n) ≡ 2 ^ (2 * n)
outside_nothing n = refused_none (2 * n) (is_pair (nothing n)) (λ bits.
    same_bits (nothing n).nodes (fits_canonical n (nothing n) (relation_fits n no_pairs)).reduced (nothing n).root (bits_of bits) (of_states (old_state (bits_of bits)) (new_state (bits_of bits))) (λ v. sym (states_of_bits (bits_of bits) v))
    ∙ leads_nothing n (old_state (bits_of bits)) (new_state (bits_of bits))) []
