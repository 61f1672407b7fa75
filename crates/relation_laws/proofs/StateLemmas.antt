-- What holds of some state.
use Rattle.std.proofs.Common.{◌≡◌, ℕ, zero, suc, ◌+◌, ◌*◌, ◌/◌, ◌%◌, ◌<◌, Bool, true, false, ◌&&◌, refl, sym, ap, ◌∙◌, inl, inr, arith}
use Rattle.std.specs.Prelude.{IsTrue}
use Rattle.std.proofs.lemmas.Bool.{cases_eq, and_parts, and_from, or_cases, or_left, or_right}
use Rattle.diagram_store.specs.Meaning.{set_bit}
use Rattle.diagram_ops.specs.Relations.{of_states}
use Rattle.diagram_ops.proofs.CallerLemmas.{old_value, new_value}
use Rattle.relation_laws.specs.Building.{none_set}
use Rattle.relation_laws.specs.States.{old_state, new_state, same_bit, AgreeBelow, each_below, some_state_from, some_state}
use Rattle.relation_laws.proofs.BuildingLemmas.{window, window_agrees}

pub same_truth : (a b : Bool) → (IsTrue a → IsTrue b) → (IsTrue b → IsTrue a) → a ≡ b
same_truth true true f g = refl
same_truth true false f g = let e : false ≡ true = f refl in cc
same_truth false true f g = let e : false ≡ true = g refl in cc
same_truth false false f g = refl

pub same_bit_is : (a b : Bool) → IsTrue (same_bit a b) → a ≡ b
same_bit_is true true h = refl
same_bit_is true false h = cc
same_bit_is false true h = cc
same_bit_is false false h = refl

pub same_bit_itself : (a : Bool) → IsTrue (same_bit a a)
same_bit_itself true = refl
same_bit_itself false = refl

pub agree_same : (n : ℕ) (x : ℕ → Bool) → AgreeBelow n x x
agree_same n x k b = refl

pub agree_sym : (n : ℕ) (x y : ℕ → Bool) → AgreeBelow n x y → AgreeBelow n y x
agree_sym n x y a k b = sym (a k b)

pub each_same : (n : ℕ) (p q : ℕ → Bool) → AgreeBelow n p q → each_below n p ≡ each_below n q
each_same zero p q same = refl
each_same (suc n) p q same =
    ap (λ t. t && each_below n p) (same n (omega arith)) ∙ ap (λ t. q n && t) (each_same n p q (λ k b. same k (omega arith)))

pub each_gives : (n : ℕ) (p : ℕ → Bool) → IsTrue (each_below n p) → (k : ℕ) → k < n → IsTrue (p k)
each_gives zero p h k b = absurd (omega arith)
each_gives (suc n) p h k b =
    let parts = and_parts (p n) (each_below n p) h in
    elim (cases_eq k n) [
      | inl is ↦ ap p is ∙ parts.0
      | inr apart ↦ each_gives n p parts.1 k (omega arith)
    ]

pub each_from : (n : ℕ) (p : ℕ → Bool) → ((k : ℕ) → k < n → IsTrue (p k)) → IsTrue (each_below n p)
each_from zero p h = refl
each_from (suc n) p h = and_from (p n) (each_below n p) (h n (omega arith)) (each_from n p (λ k b. h k (omega arith)))

pub some_gives : (k v : ℕ) (test : (ℕ → Bool) → Bool) → IsTrue (some_state_from k v test) → (x : ℕ → Bool) × IsTrue (test x)
some_gives zero v test h = (none_set, h)
some_gives (suc k) v test h = elim (or_cases (some_state_from k (suc v) (λ x. test (set_bit x v false))) (some_state_from k (suc v) (λ x. test (set_bit x v true))) h) [
  | inl low ↦ let s = some_gives k (suc v) (λ x. test (set_bit x v false)) low in (set_bit s.0 v false, s.1)
  | inr high ↦ let s = some_gives k (suc v) (λ x. test (set_bit x v true)) high in (set_bit s.0 v true, s.1)
]

some_by : (k v : ℕ) (test : (ℕ → Bool) → Bool) (x : ℕ → Bool) (c : Bool)
    → ((b : Bool) → IsTrue (test (set_bit (window (suc v) k x) v b)) → IsTrue (some_state_from k (suc v) (λ y. test (set_bit y v b))))
    → IsTrue (test (set_bit (window (suc v) k x) v c)) → IsTrue (some_state_from (suc k) v test)
some_by k v test x true from h = or_right (some_state_from k (suc v) (λ y. test (set_bit y v false))) (some_state_from k (suc v) (λ y. test (set_bit y v true))) (from true h)
some_by k v test x false from h = or_left (some_state_from k (suc v) (λ y. test (set_bit y v false))) (some_state_from k (suc v) (λ y. test (set_bit y v true))) (from false h)

some_from : (k v : ℕ) (test : (ℕ → Bool) → Bool) (x : ℕ → Bool) → IsTrue (test (window v k x)) → IsTrue (some_state_from k v test)
some_from zero v test x h = h
some_from (suc k) v test x h = some_by k v test x (x v) (λ b. some_from k (suc v) (λ y. test (set_bit y v b)) x) h

-- a test that reads the first n bits alone
abbrev pub Reads : ℕ → ((ℕ → Bool) → Bool) → Type 0
Reads n test = (x y : ℕ → Bool) → AgreeBelow n x y → test x ≡ test y

pub some_of : (n : ℕ) (test : (ℕ → Bool) → Bool) → Reads n test → (x : ℕ → Bool) → IsTrue (test x) → IsTrue (some_state n test)
some_of n test reads x h = some_from n 0 test x (reads (window 0 n x) x (window_agrees n x) ∙ h)

pub some_same : (n : ℕ) (p q : (ℕ → Bool) → Bool) → ((x : ℕ → Bool) → p x ≡ q x) → some_state n p ≡ some_state n q
some_same n p q same = let e : p ≡ q = λ i x. same x i in ap (some_state n) e

-- ---- a list of bits as a pair of states

pub states_of_bits : (bits : ℕ → Bool) (v : ℕ) → of_states (old_state bits) (new_state bits) v ≡ bits v
states_of_bits bits v = elim (cases_eq (v % 2) 0) [
  | inl even ↦ let is : 2 * (v / 2) ≡ v = omega arith in old_value (old_state bits) (new_state bits) v even ∙ ap bits is
  | inr odd ↦ let is : 2 * (v / 2) + 1 ≡ v = omega arith in new_value (old_state bits) (new_state bits) v odd ∙ ap bits is
]

pub old_of_states : (x y : ℕ → Bool) (i : ℕ) → old_state (of_states x y) i ≡ x i
old_of_states x y i =
    let even : 2 * i % 2 ≡ 0 = omega arith in
    let is : 2 * i / 2 ≡ i = omega arith in
    old_value x y (2 * i) even ∙ ap x is

pub new_of_states : (x y : ℕ → Bool) (i : ℕ) → new_state (of_states x y) i ≡ y i
new_of_states x y i =
    let odd : (2 * i + 1) % 2 ≡ 0 → ⊥ = λ e. absurd (omega arith) in
    let is : (2 * i + 1) / 2 ≡ i = omega arith in
    new_value x y (2 * i + 1) odd ∙ ap y is

pub states_agree : (n : ℕ) (x y x' y' : ℕ → Bool) → AgreeBelow n x x' → AgreeBelow n y y' → AgreeBelow (2 * n) (of_states x y) (of_states x' y')
states_agree n x y x' y' a b v below =
    let half : v / 2 < n = omega arith in
    elim (cases_eq (v % 2) 0) [
      | inl even ↦ old_value x y v even ∙ a (v / 2) half ∙ sym (old_value x' y' v even)
      | inr odd ↦ new_value x y v odd ∙ b (v / 2) half ∙ sym (new_value x' y' v odd)
    ]
