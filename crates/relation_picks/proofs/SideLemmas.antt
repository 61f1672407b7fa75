-- The values of diagrams whose bits are given, side by side.
use Rattle.std.proofs.Common.{◌≡◌, ℕ, ◌+◌, ◌*◌, ◌/◌, ◌%◌, ◌<◌, Bool, true, false, ◌&&◌, ◌↔◌, ◌≤◌, List, length, sym, ap, ◌∙◌, inl, inr, arith}
use Rattle.std.specs.Prelude.{IsTrue, nat_eq, nat_lt, slice_get, Some, if◌then◌else◌}
use Rattle.std.proofs.lemmas.Option.{same_Some, slice_get_within}
use Rattle.std.proofs.lemmas.Bool.{cases_lt, cases_eq, eq-eqb, lt-ltb, eqb-true, ltb-true, and_parts, and_from, false_from_ne_true}
use Rattle.diagram_store.specs.Meaning.{set_bit}
use Rattle.diagram_store.proofs.CallerLemmas.{set_same, set_other}
use Rattle.relation_laws.specs.States.{same_bit}
use Rattle.relation_laws.proofs.CallerLemmas.{same_bit_is, same_bit_itself}
use Rattle.relation_picks.specs.Picks.{HasBits}
use Rattle.relation_picks.specs.private.Sides.{with_side}

-- those that are listed before place i
abbrev pub HasFirstBits : ℕ → List (ℕ × Bool) → (ℕ → Bool) → Type 0
HasFirstBits i wanted x = (k u : ℕ) (b : Bool) → k < i → slice_get wanted k ≡ Some (u, b) → x u ≡ b

given : (b : Bool) (x y : Bool) → b ≡ true → (if b then x else y) ≡ x
given b x y e = ap (λ c. if c then x else y) e

kept : (b : Bool) (x y : Bool) → b ≡ false → (if b then x else y) ≡ y
kept b x y e = ap (λ c. if c then x else y) e

-- a variable is a value of one of the first i numbers, or is not
pub inside : (side i : ℕ) (x bits : ℕ → Bool) (v : ℕ) → v % 2 ≡ side → v / 2 < i → with_side side i x bits v ≡ x (v / 2)
inside side i x bits v at below = given (nat_eq (v % 2) side && nat_lt (v / 2) i) (x (v / 2)) (bits v) (and_from (nat_eq (v % 2) side) (nat_lt (v / 2) i) (eq-eqb (v % 2) side at) (lt-ltb (v / 2) i below))

pub outside : (side i : ℕ) (x bits : ℕ → Bool) (v : ℕ) → (v % 2 ≡ side → v / 2 < i → ⊥) → with_side side i x bits v ≡ bits v
outside side i x bits v not_in = kept (nat_eq (v % 2) side && nat_lt (v / 2) i) (x (v / 2)) (bits v)
    (false_from_ne_true (nat_eq (v % 2) side && nat_lt (v / 2) i) (λ e.
    let parts = and_parts (nat_eq (v % 2) side) (nat_lt (v / 2) i) e in
    not_in (eqb-true (v % 2) side parts.0) (ltb-true (v / 2) i parts.1)))

pub side_none : (side : ℕ) (x bits : ℕ → Bool) → with_side side 0 x bits ≡ bits
side_none side x bits =
    let each : (v : ℕ) → with_side side 0 x bits v ≡ bits v = λ v. outside side 0 x bits v (λ at below. omega arith) in
    λ j v. each v j

next_at : (side i : ℕ) (x bits : ℕ → Bool) → side < 2 → (v : ℕ) → with_side side i x (set_bit bits (2 * i + side) (x i)) v ≡ with_side side (i + 1) x bits v
next_at side i x bits small v = elim (cases_eq (v % 2) side) [
  | inr other ↦
      outside side i x (set_bit bits (2 * i + side) (x i)) v (λ at below. other at)
      ∙ set_other bits (2 * i + side) (x i) v (λ e. other (omega arith))
      ∙ sym (outside side (i + 1) x bits v (λ at below. other at))
  | inl at ↦ elim (cases_lt (v / 2) i) [
    | inl below ↦ inside side i x (set_bit bits (2 * i + side) (x i)) v at below ∙ sym (inside side (i + 1) x bits v at (omega arith))
    | inr past ↦ elim (cases_eq v (2 * i + side)) [
      | inl is ↦
          let half : v / 2 ≡ i = omega arith in
          outside side i x (set_bit bits (2 * i + side) (x i)) v (λ _ below. omega arith)
          ∙ ap (set_bit bits (2 * i + side) (x i)) is
          ∙ set_same bits (2 * i + side) (x i)
          ∙ sym (ap x half)
          ∙ sym (inside side (i + 1) x bits v at (omega arith))
      | inr apart ↦
          outside side i x (set_bit bits (2 * i + side) (x i)) v (λ _ below. omega arith)
          ∙ set_other bits (2 * i + side) (x i) v apart
          ∙ sym (outside side (i + 1) x bits v (λ _ below. apart (omega arith)))
    ]
  ]
]

pub side_next : (side i : ℕ) (x bits : ℕ → Bool) → side < 2 → with_side side i x (set_bit bits (2 * i + side) (x i)) ≡ with_side side (i + 1) x bits
side_next side i x bits small = λ j v. next_at side i x bits small v j

-- ---- listed bits, one after another

module _ (wanted : List (ℕ × Bool)) (i : ℕ) where
  pub first_more : (u : ℕ) (b : Bool) → slice_get wanted i ≡ Some (u, b) → (x : ℕ → Bool) (d before after : Bool) → after ≡ (before && same_bit b (x u))
      → IsTrue before ↔ (IsTrue d × HasFirstBits i wanted x) → IsTrue after ↔ (IsTrue d × HasFirstBits (i + 1) wanted x)
  first_more u b at x d before after e by = (
    λ h.
        let parts = and_parts before (same_bit b (x u)) (sym e ∙ h) in
        let old = by.0 parts.0 in (
          old.0,
          λ k v c below here. elim (cases_eq k i) [
            | inl is ↦
                let same : Some (u, b) ≡ Some (v, c) = sym at ∙ ap (slice_get wanted) (sym is) ∙ here in
                let pair : ◌≡◌ {A = ℕ × Bool} (u, b) (v, c) = same_Some (u, b) (v, c) same in
                ap x (sym (ap (λ (t : ℕ × Bool). t.0) pair)) ∙ sym (same_bit_is b (x u) parts.1) ∙ ap (λ (t : ℕ × Bool). t.1) pair
            | inr apart ↦ old.1 k v c (omega arith) here
          ],
        ),
    λ h.
        let bit : same_bit b (x u) ≡ true = ap (same_bit b) (h.1 i u b (omega arith) at) ∙ same_bit_itself b in
        e ∙ and_from before (same_bit b (x u)) (by.1 (h.0, λ k v c below here. h.1 k v c (omega arith) here)) bit,
  )

  pub first_all : length wanted ≤ i → (x : ℕ → Bool) (d made : Bool) → IsTrue made ↔ (IsTrue d × HasFirstBits i wanted x) → IsTrue made ↔ (IsTrue d × HasBits wanted x)
  first_all past x d made by = (
    λ h. let parts = by.0 h in (parts.0, λ k u b at. parts.1 k u b (let within = slice_get_within wanted k (u, b) at in omega arith) at),
    λ h. by.1 (h.0, λ k u b below at. h.1 k u b at),
  )
