-- The rows of a table that references leave.
use Rattle.std.proofs.Common.{◌≡◌, ℕ, ◌+◌, ◌*◌, ◌<◌, Bool, true, false, List, length, refl, sym, ap, ◌∙◌, subst, inl, inr, arith}
use Rattle.std.specs.Prelude.{◌↔◌, ◌⊎◌, Option, None, Some, nat_eq, bit_and, bit_xor, if◌then◌else◌}
use Rattle.std.specs.Int.{bit_at}
use Rattle.std.proofs.lemmas.Bool.{eq-eqb, eqb-true, cases_Bool, cases_lt, cases_eq, cond-true, cond-false, agree_below_at}
use Rattle.std.proofs.lemmas.Nat.Bits.{bit_at_and, bit_at_xor, bit_at-zero, bit_at-lt, bit_at_ones, bit_at_above, same_from_bits}
use Rattle.truth_tables.specs.Tables.{value_bit, bit_of, value3_of}
use Rattle.diagram_store.specs.declared.branch.Branch.{Branch}
use Rattle.diagram_store.specs.Nodes.{IsAbove, IsReduced}
use Rattle.diagram_store.specs.Meaning.{value_at}
use Rattle.diagram_store.proofs.CallerLemmas.{no_node, value_at_end}
use Rattle.diagram_ops.specs.private.Applying.{AreApplied, Applies}
use Rattle.diagram_ops.specs.private.ShortCuts.{IsValuation, CanBe, IsPossibleRow, IsShortCut}
use Rattle.diagram_ops.proofs.KeepingLemmas.{keeps_same}

abbrev row : Bool → Bool → Bool → ℕ
row a b c = 4 * bit_of a + 2 * bit_of b + bit_of c

row_below : (a b c : Bool) → row a b c < 8
row_below true true true = omega arith
row_below true true false = omega arith
row_below true false true = omega arith
row_below true false false = omega arith
row_below false true true = omega arith
row_below false true false = omega arith
row_below false false true = omega arith
row_below false false false = omega arith

pub first_place : (a b c : Bool) → value_bit 240 (row a b c) ≡ a
first_place true true true = refl
first_place true true false = refl
first_place true false true = refl
first_place true false false = refl
first_place false true true = refl
first_place false true false = refl
first_place false false true = refl
first_place false false false = refl

pub second_place : (a b c : Bool) → value_bit 204 (row a b c) ≡ b
second_place true true true = refl
second_place true true false = refl
second_place true false true = refl
second_place true false false = refl
second_place false true true = refl
second_place false true false = refl
second_place false false true = refl
second_place false false false = refl

pub third_place : (a b c : Bool) → value_bit 170 (row a b c) ≡ c
third_place true true true = refl
third_place true true false = refl
third_place true false true = refl
third_place true false false = refl
third_place false true true = refl
third_place false true false = refl
third_place false false true = refl
third_place false false false = refl

-- a row is that of its bits at the three places
bits_of_row : (k : ℕ) → k < 8 → row (value_bit 240 k) (value_bit 204 k) (value_bit 170 k) ≡ k
bits_of_row k below =
    let f : ℕ → Bool = λ q. nat_eq (row (value_bit 240 q) (value_bit 204 q) (value_bit 170 q)) q in
    eqb-true (row (value_bit 240 k) (value_bit 204 k) (value_bit 170 k)) k (agree_below_at f (λ q. true) 8 k refl below)

bit_true : (t k : ℕ) → value_bit t k ≡ true → bit_at t k ≡ 1
bit_true t k e = eqb-true (bit_at t k) 1 e

bit_false : (t k : ℕ) → value_bit t k ≡ false → bit_at t k ≡ 0
bit_false t k e =
    let below = bit_at-lt t k in
    let apart : bit_at t k ≡ 1 → ⊥ = λ is. let f : true ≡ false = sym (eq-eqb (bit_at t k) 1 is) ∙ e in cc in
    omega (arith, below)

true_bit : (t k : ℕ) → bit_at t k ≡ 1 → value_bit t k ≡ true
true_bit t k e = eq-eqb (bit_at t k) 1 e

false_bit : (t k : ℕ) → bit_at t k ≡ 0 → value_bit t k ≡ false
false_bit t k e = ap (λ s. nat_eq s 1) e

same_bits : (a b k : ℕ) → value_bit a k ≡ value_bit b k → bit_at a k ≡ bit_at b k
same_bits a b k e = elim (cases_Bool (value_bit b k)) [
  | inl t ↦ bit_true a k (e ∙ t) ∙ sym (bit_true b k t)
  | inr f ↦ bit_false a k (e ∙ f) ∙ sym (bit_false b k f)
]

pub in_all : (k : ℕ) → k < 8 → value_bit 255 k ≡ true
in_all k below = true_bit 255 k (bit_at_ones 8 k below)

in_both : {P Q : Type 0} (a b k : ℕ) → (value_bit a k ≡ true) ↔ P → (value_bit b k ≡ true) ↔ Q → (value_bit (bit_and a b) k ≡ true) ↔ (P × Q)
in_both a b k p q =
    let e = bit_at_and a b k in
    let x = bit_at-lt a k in
    let y = bit_at-lt b k in (
      λ h. let one = bit_true (bit_and a b) k h in
          (p.0 (true_bit a k (omega (arith, one, e, x, y))), q.0 (true_bit b k (omega (arith, one, e, x, y)))),
      λ h. let one = bit_true a k (p.1 h.0) in
          let two = bit_true b k (q.1 h.1) in
          true_bit (bit_and a b) k (omega (arith, one, two, e)),
    )

same_in_xor : (a b k : ℕ) → (value_bit (bit_xor a b) k ≡ false) ↔ (value_bit a k ≡ value_bit b k)
same_in_xor a b k =
    let e = bit_at_xor a b k in
    let x = bit_at-lt a k in
    let y = bit_at-lt b k in (
      λ h. let none = bit_false (bit_xor a b) k h in
          let same : bit_at a k ≡ bit_at b k = omega (arith, none, e, x, y) in
          ap (λ s. nat_eq s 1) same,
      λ h. let same = same_bits a b k h in
          false_bit (bit_xor a b) k (omega (arith, same, e, x, y)),
    )

-- the bit of the inverse is true where that of the number is false
pub in_inverse : (a k : ℕ) → k < 8 → (value_bit (bit_xor a 255) k ≡ true) ↔ (value_bit a k ≡ false)
in_inverse a k below =
    let e = bit_at_xor a 255 k in
    let x = bit_at-lt a k in
    let ones : bit_at 255 k ≡ 1 = bit_at_ones 8 k below in (
      λ h. let one = bit_true (bit_xor a 255) k h in
          false_bit a k (omega (arith, one, e, x, ones)),
      λ h. let none = bit_false a k h in
          true_bit (bit_xor a 255) k (omega (arith, none, e, x, ones)),
    )

-- two equal bits
pub in_same : (a b k : ℕ) → k < 8 → (value_bit (bit_xor (bit_xor a b) 255) k ≡ true) ↔ (value_bit a k ≡ value_bit b k)
in_same a b k below =
    let inverse = in_inverse (bit_xor a b) k below in
    let same = same_in_xor a b k in
    (λ h. same.0 (inverse.0 h), λ h. inverse.1 (same.1 h))

no_bit : (rows table other k : ℕ) → (value_bit rows k ≡ true → value_bit table k ≡ value_bit other k) → bit_at (bit_and (bit_xor table other) rows) k ≡ 0
no_bit rows table other k same =
    let e = bit_at_and (bit_xor table other) rows k in
    let below = bit_at-lt (bit_xor table other) k in
    elim (cases_Bool (value_bit rows k)) [
      | inl t ↦ let none = bit_false (bit_xor table other) k ((same_in_xor table other k).1 (same t)) in omega (arith, e, none)
      | inr f ↦ let none = bit_false rows k f in omega (arith, e, none)
    ]

-- two tables are the same on these rows where their differences have no row of them
pub same_on_rows : (rows table other : ℕ) → rows < 256
    → (bit_and (bit_xor table other) rows ≡ 0) ↔ ((a b c : Bool) → value3_of rows a b c ≡ true → value3_of table a b c ≡ value3_of other a b c)
same_on_rows rows table other within = (
  λ e a b c p.
      let k : ℕ = row a b c in
      let none : bit_at (bit_and (bit_xor table other) rows) k ≡ 0 = ap (λ s. bit_at s k) e ∙ bit_at-zero k in
      let joint = bit_at_and (bit_xor table other) rows k in
      let one = bit_true rows k p in
      let below = bit_at-lt (bit_xor table other) k in
      (same_in_xor table other k).0 (false_bit (bit_xor table other) k (omega (arith, none, joint, one, below))),
  λ same. same_from_bits (bit_and (bit_xor table other) rows) 0 (λ k. elim (cases_lt k 8) [
    | inl below ↦ let P : ℕ → Type 0 = λ q. value_bit rows q ≡ true → value_bit table q ≡ value_bit other q in
        no_bit rows table other k (subst P (bits_of_row k below) (same (value_bit 240 k) (value_bit 204 k) (value_bit 170 k))) ∙ sym (bit_at-zero k)
    | inr past ↦ let none : value_bit rows k ≡ false = false_bit rows k (bit_at_above rows 8 k within past) in
        no_bit rows table other k (λ t. let f : true ≡ false = sym t ∙ none in cc) ∙ sym (bit_at-zero k)
  ]),
)

-- three bits that constants and equal references allow
abbrev AreAllowed : (x y z : ℕ) (a b c : Bool) → Type 0
AreAllowed x y z a b c = ((((CanBe x a × CanBe y b) × CanBe z c) × (x ≡ y → a ≡ b)) × (x ≡ z → a ≡ c)) × (y ≡ z → b ≡ c)

allowed : (x y z : ℕ) (a b c : Bool) → IsPossibleRow x y z a b c → AreAllowed x y z a b c
allowed x y z a b c w =
    let can : (r : ℕ) (v : Bool) → w.bit r ≡ v → CanBe r v = λ r v e.
    (λ none. sym e ∙ ap w.bit none ∙ w.valuation.0, λ one. sym e ∙ ap w.bit one ∙ w.valuation.1) in
    let same : (q r : ℕ) (u v : Bool) → w.bit q ≡ u → w.bit r ≡ v → q ≡ r → u ≡ v = λ q r u v e f is. sym e ∙ ap w.bit is ∙ f in
    (((((can x a w.first, can y b w.second), can z c w.third), same x y a b w.first w.second), same x z a c w.first w.third), same y z b c w.second w.third)

-- a choice by whether two numbers are equal has a value that both sides have
chosen : (q r : ℕ) (u v w : Bool) → (q ≡ r → u ≡ w) → v ≡ w → (if nat_eq q r then u else v) ≡ w
chosen q r u v w here else_ = elim (cases_Bool (nat_eq q r)) [
  | inl t ↦ cond-true (nat_eq q r) u v t ∙ here (eqb-true q r t)
  | inr f ↦ cond-false (nat_eq q r) u v f ∙ else_
]

chosen_same : (q : ℕ) (u v : Bool) → (if nat_eq q q then u else v) ≡ u
chosen_same q u v = cond-true (nat_eq q q) u v (eq-eqb q q refl)

possible : (x y z : ℕ) (a b c : Bool) → AreAllowed x y z a b c → IsPossibleRow x y z a b c
possible x y z a b c w =
    let first : CanBe x a = w.0.0.0.0.0 in
    let second : CanBe y b = w.0.0.0.0.1 in
    let third : CanBe z c = w.0.0.0.1 in
    let later : ℕ → Bool = λ q. if nat_eq q z then c else nat_eq q 1 in
    let last : ℕ → Bool = λ q. if nat_eq q y then b else later q in
    record {
      bit = λ q. if nat_eq q x then a else last q;
      valuation = (
        chosen 0 x a (last 0) false (λ e. first.0 (sym e)) (chosen 0 y b (later 0) false (λ e. second.0 (sym e)) (chosen 0 z c false false (λ e. third.0 (sym e)) refl)),
        chosen 1 x a (last 1) true (λ e. first.1 (sym e)) (chosen 1 y b (later 1) true (λ e. second.1 (sym e)) (chosen 1 z c true true (λ e. third.1 (sym e)) refl)),
      );
      first = chosen_same x a (last x);
      second = chosen y x a (last y) b (λ e. w.0.0.1 (sym e)) (chosen_same y b (later y));
      third = chosen z x a (last z) c (λ e. w.0.1 (sym e)) (chosen z y b (later z) c (λ e. w.1 (sym e)) (chosen_same z c (nat_eq z 1)));
    }

-- the rows that are left are those of some valuation
pub rows_left : (x y z a b c d e f : ℕ)
    → ((k : ℕ) → k < 8 → (value_bit a k ≡ true) ↔ CanBe x (value_bit 240 k))
    → ((k : ℕ) → k < 8 → (value_bit b k ≡ true) ↔ CanBe y (value_bit 204 k))
    → ((k : ℕ) → k < 8 → (value_bit c k ≡ true) ↔ CanBe z (value_bit 170 k))
    → ((k : ℕ) → k < 8 → (value_bit d k ≡ true) ↔ (x ≡ y → value_bit 240 k ≡ value_bit 204 k))
    → ((k : ℕ) → k < 8 → (value_bit e k ≡ true) ↔ (x ≡ z → value_bit 240 k ≡ value_bit 170 k))
    → ((k : ℕ) → k < 8 → (value_bit f k ≡ true) ↔ (y ≡ z → value_bit 204 k ≡ value_bit 170 k))
    → (u v w : Bool) → (value3_of (bit_and (bit_and (bit_and (bit_and (bit_and a b) c) d) e) f) u v w ≡ true) ↔ IsPossibleRow x y z u v w
rows_left x y z a b c d e f first second third both outer later u v w =
    let k : ℕ = row u v w in
    let below = row_below u v w in
    let p = first_place u v w in
    let q = second_place u v w in
    let r = third_place u v w in
    let one : (value_bit a k ≡ true) ↔ CanBe x u = subst (λ s. (value_bit a k ≡ true) ↔ CanBe x s) p (first k below) in
    let two : (value_bit b k ≡ true) ↔ CanBe y v = subst (λ s. (value_bit b k ≡ true) ↔ CanBe y s) q (second k below) in
    let three : (value_bit c k ≡ true) ↔ CanBe z w = subst (λ s. (value_bit c k ≡ true) ↔ CanBe z s) r (third k below) in
    let equal : (value_bit d k ≡ true) ↔ (x ≡ y → u ≡ v) =
    (λ h is. sym p ∙ (both k below).0 h is ∙ q, λ h. (both k below).1 (λ is. p ∙ h is ∙ sym q)) in
    let equal' : (value_bit e k ≡ true) ↔ (x ≡ z → u ≡ w) =
    (λ h is. sym p ∙ (outer k below).0 h is ∙ r, λ h. (outer k below).1 (λ is. p ∙ h is ∙ sym r)) in
    let equal'' : (value_bit f k ≡ true) ↔ (y ≡ z → v ≡ w) =
    (λ h is. sym q ∙ (later k below).0 h is ∙ r, λ h. (later k below).1 (λ is. q ∙ h is ∙ sym r)) in
    let ab = in_both a b k one two in
    let abc = in_both (bit_and a b) c k ab three in
    let abcd = in_both (bit_and (bit_and a b) c) d k abc equal in
    let abcde = in_both (bit_and (bit_and (bit_and a b) c) d) e k abcd equal' in
    let all = in_both (bit_and (bit_and (bit_and (bit_and a b) c) d) e) f k abcde equal'' in
    (λ h. possible x y z u v w (all.0 h), λ h. all.1 (allowed x y z u v w h))

-- a reference is what a table makes of three references
abbrev IsMadeBy : (other x y z r : ℕ) → Type 0
IsMadeBy other x y z r = (bit : ℕ → Bool) → IsValuation bit → bit r ≡ value3_of other (bit x) (bit y) (bit z)

made_false : (x y z : ℕ) → IsMadeBy 0 x y z 0
made_false x y z = λ bit v. let k : ℕ = row (bit x) (bit y) (bit z) in v.0 ∙ sym (false_bit 0 k (bit_at-zero k))

pub made_true : (x y z : ℕ) → IsMadeBy 255 x y z 1
made_true x y z = λ bit v. v.1 ∙ sym (in_all (row (bit x) (bit y) (bit z)) (row_below (bit x) (bit y) (bit z)))

pub made_first : (x y z : ℕ) → IsMadeBy 240 x y z x
made_first x y z = λ bit v. sym (first_place (bit x) (bit y) (bit z))

pub made_second : (x y z : ℕ) → IsMadeBy 204 x y z y
made_second x y z = λ bit v. sym (second_place (bit x) (bit y) (bit z))

pub made_third : (x y z : ℕ) → IsMadeBy 170 x y z z
made_third x y z = λ bit v. sym (third_place (bit x) (bit y) (bit z))

-- the rows of three references
abbrev AreRows : (rows x y z : ℕ) → Type 0
AreRows rows x y z = (a b c : Bool) → (value3_of rows a b c ≡ true) ↔ IsPossibleRow x y z a b c

-- two tables with the same value on each of these rows
abbrev AreSameOn : (rows table other : ℕ) → Type 0
AreSameOn rows table other = (a b c : Bool) → value3_of rows a b c ≡ true → value3_of table a b c ≡ value3_of other a b c

-- the reference that a table makes is a short cut, where that table is the same on the rows
pub taken : (rows table other x y z r : ℕ) → AreRows rows x y z → IsMadeBy other x y z r → AreSameOn rows table other → (r < 2) ⊎ ((r ≡ x) ⊎ ((r ≡ y) ⊎ (r ≡ z)))
    → IsShortCut table x y z r
taken rows table other x y z r all made same among = record {
  among = among;
  value = λ bit v.
      let here : IsPossibleRow x y z (bit x) (bit y) (bit z) = record { bit = bit; valuation = v; first = refl; second = refl; third = refl } in
      made bit v ∙ sym (same (bit x) (bit y) (bit z) ((all (bit x) (bit y) (bit z)).1 here));
}

-- a short cut that a table makes is the same as that table on the rows
missed : (rows table other x y z r : ℕ) → AreRows rows x y z → IsMadeBy other x y z r → IsShortCut table x y z r → AreSameOn rows table other
missed rows table other x y z r all made s = λ a b c p.
    let w = (all a b c).0 p in
    let moved : (t : ℕ) → value3_of t (w.bit x) (w.bit y) (w.bit z) ≡ value3_of t a b c = λ t.
    ap (λ q. value3_of t q (w.bit y) (w.bit z)) w.first ∙ ap (λ q. value3_of t a q (w.bit z)) w.second ∙ ap (λ q. value3_of t a b q) w.third in
    sym (moved table) ∙ sym (s.value w.bit w.valuation) ∙ made w.bit w.valuation ∙ moved other

-- a short cut has the value of one of the five tables
pub no_other : (rows table x y z : ℕ) → AreRows rows x y z → (AreSameOn rows table 0 → ⊥) → (AreSameOn rows table 255 → ⊥) → (AreSameOn rows table 240 → ⊥)
    → (AreSameOn rows table 204 → ⊥) → (AreSameOn rows table 170 → ⊥) → (r : ℕ) → IsShortCut table x y z r → ⊥
no_other rows table x y z all not_false not_true not_first not_second not_third r s =
    let at : (other q : ℕ) → IsMadeBy other x y z q → r ≡ q → AreSameOn rows table other = λ other q made is.
    missed rows table other x y z r all (subst (λ p. IsMadeBy other x y z p) (sym is) made) s in
    elim s.among [
      | inl below ↦ elim (cases_eq r 0) [
        | inl is ↦ not_false (at 0 0 (made_false x y z) is)
        | inr apart ↦ not_true (at 255 1 (made_true x y z) (omega (arith, apart, below)))
      ]
      | inr e ↦ elim e [
        | inl is ↦ not_first (at 240 x (made_first x y z) is)
        | inr f ↦ elim f [
          | inl is ↦ not_second (at 204 y (made_second x y z) is)
          | inr is ↦ not_third (at 170 z (made_third x y z) is)
        ]
      ]
    ]

-- the answer stands for the operator at the three references
pub applies_at_once : (table : ℕ) (nodes : List Branch) (results : ℕ → ℕ → ℕ → Option ℕ) (x y z r : ℕ) → IsReduced nodes → AreApplied table nodes results
    → x < length nodes + 2 → y < length nodes + 2 → z < length nodes + 2 → IsShortCut table x y z r → Applies table nodes nodes results x y z r
applies_at_once table nodes results x y z r all known wx wy wz s = record {
  reduced = all;
  keeps = keeps_same nodes;
  known = known;
  applied = record {
    first = wx;
    second = wy;
    third = wz;
    stands = record {
      within = elim s.among [
        | inl below ↦ omega arith
        | inr e ↦ elim e [ inl f ↦ omega arith | inr f ↦ elim f [ inl g ↦ omega arith | inr g ↦ omega arith ] ]
      ];
      means = λ bits. s.value (λ q. value_at nodes q bits) (value_at_end nodes 0 bits refl, value_at_end nodes 1 bits refl);
      above = λ v b.
          let P : ℕ → Type 0 = λ q. IsAbove nodes v q in
          elim s.among [
            | inl below ↦ λ n at. let f : None ≡ Some n = sym (no_node nodes r below) ∙ at in cc
            | inr e ↦ elim e [ inl f ↦ subst P (sym f) b.0 | inr f ↦ elim f [ inl g ↦ subst P (sym g) b.1 | inr g ↦ subst P (sym g) b.2 ] ]
          ];
    };
  };
}
