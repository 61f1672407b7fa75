-- One step of an operator through three operands.
use Rattle.std.proofs.Common.{◌≡◌, ℕ, ◌+◌, ◌<◌, ◌≤◌, Bool, true, false, List, length, refl, sym, ap, ap₂, ◌∙◌, subst, inl, inr, arith}
use Rattle.std.specs.Prelude.{Option, None, Some, ◌⊎◌, nat_eq, nat_le, cond}
use Rattle.std.proofs.lemmas.Bool.{cond-true, cond-false, cases_Bool}
use Rattle.std.proofs.lemmas.Option.{same_Some}
use mir.Val.{bool_byte}
use Rattle.truth_tables.specs.Tables.{value3_of}
use Rattle.diagram_store.specs.declared.branch.Branch.{Branch}
use Rattle.diagram_store.specs.Nodes.{node_at, IsAbove, IsReduced}
use Rattle.diagram_store.specs.Meaning.{value_at}
use Rattle.diagram_store.proofs.CallerLemmas.{no_node, value_at_end}
use Rattle.diagram_store.specs.TripleTables.{same_key}
use Rattle.diagram_ops.specs.private.Scratch.{Keeps, Stands, IsChoice}
use Rattle.diagram_ops.specs.private.Applying.{variable, place_in, lower, cofactor, IsTableOf, ComesBefore, IsApplied, AreApplied, Applies}
use Rattle.diagram_ops.proofs.KeepingLemmas.{keeps_same, keeps_both, keeps_within, keeps_above, keeps_value}
use Rattle.diagram_ops.proofs.PushLemmas.{key_parts}
use Rattle.diagram_ops.proofs.CofactorLemmas.{Bounds, lower_is, lower_none, none_of_variable, node_of_variable, cofactor_value, cofactor_smaller, cofactor_within, cofactor_above}

pub byte_below : (b : Bool) → bool_byte b < 2
byte_below true = omega arith
byte_below false = omega arith

byte_is : (b : Bool) → nat_eq (bool_byte b) 1 ≡ b
byte_is true = refl
byte_is false = refl

-- a constant reference by its value
pub stands_constant : (nodes : List Branch) (r : ℕ) (b : Bool) (meaning : (ℕ → Bool) → Bool → Type 0) (before : ℕ → Type 0) → r ≡ bool_byte b → ((bits : ℕ → Bool) → meaning bits b) → Stands nodes r meaning before
stands_constant nodes r b meaning before e means =
    let below : r < 2 = subst (λ (k : ℕ). k < 2) (sym e) (byte_below b) in
    record {
      within = omega arith;
      means = λ bits.
          let M : Bool → Type 0 = meaning bits in
          subst M (sym (value_at_end nodes r bits (no_node nodes r below) ∙ ap (λ k. nat_eq k 1) e ∙ byte_is b)) (means bits);
      above = λ v h n f. let g : None ≡ Some n = sym (no_node nodes r below) ∙ f in cc;
    }

-- the lowest variable by what the references name
pub lowest_read : (nodes : List Branch) (x y z : ℕ) (first second third : Option Branch) → first ≡ node_at nodes x → second ≡ node_at nodes y → third ≡ node_at nodes z
    → lower (lower (place_in (λ k. k) first) (place_in (λ k. k) second)) (place_in (λ k. k) third) ≡ lower (lower (variable nodes x) (variable nodes y)) (variable nodes z)
lowest_read nodes x y z first second third e f g =
    ap₂ (λ a b. lower a (place_in (λ k. k) b)) (ap₂ (λ a b. lower (place_in (λ k. k) a) (place_in (λ k. k) b)) e f) g

pub value3_same : (table : ℕ) (a b c a' b' c' : Bool) → a ≡ a' → b ≡ b' → c ≡ c' → value3_of table a b c ≡ value3_of table a' b' c'
value3_same table a b c a' b' c' p q r = ap₂ (λ x y. value3_of table x y c) p q ∙ ap (λ z. value3_of table a' b' z) r

-- what comes before a reference came before it already
above_before : (old new : List Branch) → Keeps old new → (v r : ℕ) → IsAbove new v r → IsAbove old v r
above_before old new k v r above n e = above n (k.each r n e)

module _ (old : List Branch) (whole : IsReduced old) (new : List Branch) (other : IsReduced new) (k : Keeps old new) where
  pub applied_kept : (table x y z r : ℕ) → IsApplied table old x y z r → IsApplied table new x y z r
  applied_kept table x y z r a = record {
    first = keeps_within old new k x a.first;
    second = keeps_within old new k y a.second;
    third = keeps_within old new k z a.third;
    stands = record {
      within = keeps_within old new k r a.stands.within;
      means = λ bits.
          keeps_value old whole new other k r a.stands.within bits
          ∙ a.stands.means bits
          ∙ sym (value3_same table (value_at new x bits) (value_at new y bits) (value_at new z bits) (value_at old x bits) (value_at old y bits) (value_at old z bits)
          (keeps_value old whole new other k x a.first bits) (keeps_value old whole new other k y a.second bits) (keeps_value old whole new other k z a.third bits));
      above = λ v b. keeps_above old new k v r a.stands.within (a.stands.above v (above_before old new k v x b.0, above_before old new k v y b.1, above_before old new k v z b.2));
    };
  }

  pub are_applied_kept : (table : ℕ) (results : ℕ → ℕ → ℕ → Option ℕ) → AreApplied table old results → AreApplied table new results
  are_applied_kept table results a x y z r e = applied_kept table x y z r (a x y z r e)

-- three constants
pub applies_constant : (table : ℕ) (nodes : List Branch) (results : ℕ → ℕ → ℕ → Option ℕ) (x y z r : ℕ) (b : Bool) → IsReduced nodes → AreApplied table nodes results
    → x < length nodes + 2 → y < length nodes + 2 → z < length nodes + 2
    → None ≡ lower (lower (variable nodes x) (variable nodes y)) (variable nodes z) → r ≡ bool_byte b → b ≡ value3_of table (nat_eq x 1) (nat_eq y 1) (nat_eq z 1)
    → Applies table nodes nodes results x y z r
applies_constant table nodes results x y z r b all a wx wy wz none e is =
    let outer = lower_none (lower (variable nodes x) (variable nodes y)) (variable nodes z) (sym none) in
    let inner = lower_none (variable nodes x) (variable nodes y) outer.0 in
    record {
      reduced = all;
      keeps = keeps_same nodes;
      known = a;
      applied = record {
        first = wx;
        second = wy;
        third = wz;
        stands = stands_constant nodes r b (IsTableOf table nodes x y z) (ComesBefore nodes x y z) e
            (λ bits. is ∙ sym (value3_same table (value_at nodes x bits) (value_at nodes y bits) (value_at nodes z bits) (nat_eq x 1) (nat_eq y 1) (nat_eq z 1)
            (value_at_end nodes x bits (none_of_variable nodes x inner.0)) (value_at_end nodes y bits (none_of_variable nodes y inner.1)) (value_at_end nodes z bits (none_of_variable nodes z outer.1))));
      };
    }

pub applies_known : (table : ℕ) (nodes : List Branch) (results : ℕ → ℕ → ℕ → Option ℕ) (x y z r : ℕ) → IsReduced nodes → AreApplied table nodes results → results x y z ≡ Some r
    → Applies table nodes nodes results x y z r
applies_known table nodes results x y z r all a e = record { reduced = all; keeps = keeps_same nodes; known = a; applied = a x y z r e }

pub record IsLowest (nodes : List Branch) (x y z v : ℕ) : Type 0 where
  pub first : Bounds v (variable nodes x)
  pub second : Bounds v (variable nodes y)
  pub third : Bounds v (variable nodes z)
  pub one : (variable nodes x ≡ Some v) ⊎ ((variable nodes y ≡ Some v) ⊎ (variable nodes z ≡ Some v))

some_lower : (x y : ℕ) → (v : ℕ) × (lower (Some x) (Some y) ≡ Some v)
some_lower x y = elim (cases_Bool (nat_le x y)) [
  | inl le ↦ (x, cond-true (nat_le x y) (Some x) (Some y) le)
  | inr more ↦ (y, cond-false (nat_le x y) (Some x) (Some y) more)
]

-- a bound of the lower of two is a bound of both
lower_bounds : (v : ℕ) (a b : Option ℕ) → Bounds v (lower a b) → Bounds v a × Bounds v b
lower_bounds v None b h = (λ w f. cc, h)
lower_bounds v (Some x) None h = (h, λ w f. cc)
lower_bounds v (Some x) (Some y) h =
    let found = some_lower x y in
    let l = lower_is (Some x) (Some y) found.0 found.1 in
    let le : v ≤ found.0 = h found.0 found.1 in (
      λ w f. let b : found.0 ≤ w = l.first w f in omega arith,
      λ w f. let b : found.0 ≤ w = l.second w f in omega arith,
    )

pub lowest_is : (nodes : List Branch) (x y z v : ℕ) → lower (lower (variable nodes x) (variable nodes y)) (variable nodes z) ≡ Some v → IsLowest nodes x y z v
lowest_is nodes x y z v e =
    let outer = lower_is (lower (variable nodes x) (variable nodes y)) (variable nodes z) v e in
    let inner = lower_bounds v (variable nodes x) (variable nodes y) outer.first in
    record {
      first = inner.0;
      second = inner.1;
      third = outer.second;
      one = elim outer.one [
        | inl f ↦ elim (lower_is (variable nodes x) (variable nodes y) v f).one [ inl g ↦ inl g | inr g ↦ inr (inl g) ]
        | inr f ↦ inr (inr f)
      ];
    }

-- the triple's operands by the bit of their lowest variable are smaller together
pub cofactors_fall : (nodes : List Branch) → IsReduced nodes → (x y z v : ℕ) → IsLowest nodes x y z v → (b : Bool)
    → (cofactor nodes v b x + cofactor nodes v b y) + cofactor nodes v b z < (x + y) + z
cofactors_fall nodes all x y z v low b =
    let cx = cofactor_within nodes all v b x in
    let cy = cofactor_within nodes all v b y in
    let cz = cofactor_within nodes all v b z in
    elim low.one [
      | inl e ↦ let s = cofactor_smaller nodes all v b x e in omega (arith, cx, cy, cz, s)
      | inr e ↦ elim e [
        | inl f ↦ let s = cofactor_smaller nodes all v b y f in omega (arith, cx, cy, cz, s)
        | inr f ↦ let s = cofactor_smaller nodes all v b z f in omega (arith, cx, cy, cz, s)
      ]
    ]

module _ (table : ℕ) (old : List Branch) (whole : IsReduced old) (x y z v : ℕ) (wx : x < length old + 2) (wy : y < length old + 2) (wz : z < length old + 2) (lowest : IsLowest old x y z v)
    (n1 : List Branch) (k1 : ℕ → ℕ → ℕ → Option ℕ) (l : ℕ) (low : Applies table old n1 k1 (cofactor old v false x) (cofactor old v false y) (cofactor old v false z) l)
    (n2 : List Branch) (k2 : ℕ → ℕ → ℕ → Option ℕ) (h : ℕ) (high : Applies table n1 n2 k2 (cofactor old v true x) (cofactor old v true y) (cofactor old v true z) h) where
  before : (b : Bool) → ComesBefore old (cofactor old v b x) (cofactor old v b y) (cofactor old v b z) v
  before b = (cofactor_above old whole v b x lowest.first, cofactor_above old whole v b y lowest.second, cofactor_above old whole v b z lowest.third)

  inside : (b : Bool) (r : ℕ) → r < length old + 2 → cofactor old v b r < length old + 2
  inside b r w = let c = cofactor_within old whole v b r in omega (arith, c)

  above_kept : (new : List Branch) → Keeps old new → (b : Bool) → ComesBefore new (cofactor old v b x) (cofactor old v b y) (cofactor old v b z) v
  above_kept new k b =
      let up = before b in (
        keeps_above old new k v (cofactor old v b x) (inside b x wx) up.0,
        keeps_above old new k v (cofactor old v b y) (inside b y wy) up.1,
        keeps_above old new k v (cofactor old v b z) (inside b z wz) up.2,
      )

  pub low_above : IsAbove n2 v l
  low_above = keeps_above n1 n2 high.keeps v l low.applied.stands.within (low.applied.stands.above v (above_kept n1 low.keeps false))

  pub low_within : l < length n2 + 2
  low_within = keeps_within n1 n2 high.keeps l low.applied.stands.within

  keeps2 : Keeps old n2
  keeps2 = keeps_both old n1 n2 low.keeps high.keeps

  pub high_above : IsAbove n2 v h
  high_above = high.applied.stands.above v (above_kept n2 keeps2 true)

  module _ (n3 : List Branch) (all : IsReduced n3) (keeps : Keeps n2 n3) (r : ℕ) (stands : Stands n3 r (IsChoice n3 v l h) (λ u. u < v))
      (k3 : ℕ → ℕ → ℕ → Option ℕ) (noted : (a b c : ℕ) → k3 a b c ≡ cond (same_key (x, y, z) (a, b, c)) (Some r) (k2 a b c)) where
    keeps3 : Keeps old n3
    keeps3 = keeps_both old n2 n3 keeps2 keeps

    low3 : IsApplied table n3 (cofactor old v false x) (cofactor old v false y) (cofactor old v false z) l
    low3 = applied_kept n1 low.reduced n3 all (keeps_both n1 n2 n3 high.keeps keeps) table (cofactor old v false x) (cofactor old v false y) (cofactor old v false z) l low.applied

    high3 : IsApplied table n3 (cofactor old v true x) (cofactor old v true y) (cofactor old v true z) h
    high3 = applied_kept n2 high.reduced n3 all keeps table (cofactor old v true x) (cofactor old v true y) (cofactor old v true z) h high.applied

    -- an operand's value is that of the way it goes on
    operand : (q : ℕ) → q < length old + 2 → (bits : ℕ → Bool) (b : Bool) → bits v ≡ b → value_at n3 (cofactor old v b q) bits ≡ value_at n3 q bits
    operand q w bits b e =
        keeps_value old whole n3 all keeps3 (cofactor old v b q) (inside b q w) bits
        ∙ sym (cofactor_value old whole v q bits b e)
        ∙ sym (keeps_value old whole n3 all keeps3 q w bits)

    operands : (bits : ℕ → Bool) (b : Bool) → bits v ≡ b
        → value3_of table (value_at n3 (cofactor old v b x) bits) (value_at n3 (cofactor old v b y) bits) (value_at n3 (cofactor old v b z) bits)
        ≡ value3_of table (value_at n3 x bits) (value_at n3 y bits) (value_at n3 z bits)
    operands bits b e = value3_same table (value_at n3 (cofactor old v b x) bits) (value_at n3 (cofactor old v b y) bits) (value_at n3 (cofactor old v b z) bits)
        (value_at n3 x bits) (value_at n3 y bits) (value_at n3 z bits) (operand x wx bits b e) (operand y wy bits b e) (operand z wz bits b e)

    means3 : (bits : ℕ → Bool) → IsTableOf table n3 x y z bits (value_at n3 r bits)
    means3 bits = stands.means bits ∙ elim (cases_Bool (bits v)) [
      | inl e ↦ cond-true (bits v) (value_at n3 h bits) (value_at n3 l bits) e ∙ high3.stands.means bits ∙ operands bits true e
      | inr e ↦ cond-false (bits v) (value_at n3 h bits) (value_at n3 l bits) e ∙ low3.stands.means bits ∙ operands bits false e
    ]

    under : (q u : ℕ) → variable old q ≡ Some v → IsAbove n3 u q → u < v
    under q u e above = let n = node_of_variable old q v e in subst (λ (k : ℕ). u < k) n.2 (above n.0 (keeps3.each q n.0 n.1))

    above3 : (u : ℕ) → ComesBefore n3 x y z u → IsAbove n3 u r
    above3 u b = stands.above u (elim lowest.one [
      | inl e ↦ under x u e b.0
      | inr e ↦ elim e [ inl f ↦ under y u f b.1 | inr f ↦ under z u f b.2 ]
    ])

    applied3 : IsApplied table n3 x y z r
    applied3 = record {
      first = keeps_within old n3 keeps3 x wx;
      second = keeps_within old n3 keeps3 y wy;
      third = keeps_within old n3 keeps3 z wz;
      stands = record { within = stands.within; means = means3; above = above3 };
    }

    pub applies_step : Applies table old n3 k3 x y z r
    applies_step = record {
      reduced = all;
      keeps = keeps3;
      applied = applied3;
      known = λ a b c q e. elim (cases_Bool (same_key (x, y, z) (a, b, c))) [
        | inl same ↦
            let parts = key_parts x y z a b c same in
            let is : r ≡ q = same_Some r q (sym (cond-true (same_key (x, y, z) (a, b, c)) (Some r) (k2 a b c) same) ∙ sym (noted a b c) ∙ e) in
            let P : ℕ → ℕ → ℕ → ℕ → Type 0 = λ i j k m. IsApplied table n3 i j k m in
            subst (λ (m : ℕ). P a b c m) is (subst (λ (k : ℕ). P a b k r) parts.2 (subst (λ (j : ℕ). P a j z r) parts.1 (subst (λ (i : ℕ). P i y z r) parts.0 applied3)))
        | inr apart ↦
            applied_kept n2 high.reduced n3 all keeps table a b c q
            (high.known a b c q (sym (cond-false (same_key (x, y, z) (a, b, c)) (Some r) (k2 a b c) apart) ∙ sym (noted a b c) ∙ e))
      ];
    }

-- as the code names the operands where the bit is b
pub record AreCofactors (nodes : List Branch) (v : ℕ) (b : Bool) (x y z i j k : ℕ) : Type 0 where
  pub first : i ≡ cofactor nodes v b x
  pub second : j ≡ cofactor nodes v b y
  pub third : k ≡ cofactor nodes v b z

pub operands_fall : (nodes : List Branch) → IsReduced nodes → (x y z v : ℕ) → IsLowest nodes x y z v → (b : Bool) (i j k : ℕ) → AreCofactors nodes v b x y z i j k → (i + j) + k < (x + y) + z
operands_fall nodes all x y z v low b i j k c =
    let f = cofactors_fall nodes all x y z v low b in
    let p : i ≡ cofactor nodes v b x = c.first in
    let q : j ≡ cofactor nodes v b y = c.second in
    let r : k ≡ cofactor nodes v b z = c.third in
    omega (arith, f)

pub operand_within : (old new : List Branch) → IsReduced old → Keeps old new → (v : ℕ) (b : Bool) (x i : ℕ) → x < length old + 2 → i ≡ cofactor old v b x → i < length new + 2
operand_within old new all k v b x i w e =
    let c = cofactor_within old all v b x in
    keeps_within old new k i (omega (arith, c))

pub applies_at : (table : ℕ) (old new : List Branch) (results : ℕ → ℕ → ℕ → Option ℕ) (nodes : List Branch) (v : ℕ) (b : Bool) (x y z i j k r : ℕ) → AreCofactors nodes v b x y z i j k
    → Applies table old new results i j k r → Applies table old new results (cofactor nodes v b x) (cofactor nodes v b y) (cofactor nodes v b z) r
applies_at table old new results nodes v b x y z i j k r c a =
    let P : ℕ → ℕ → ℕ → Type 0 = λ p q s. Applies table old new results p q s r in
    subst (λ (s : ℕ). P (cofactor nodes v b x) (cofactor nodes v b y) s) c.third
    (subst (λ (q : ℕ). P (cofactor nodes v b x) q k) c.second (subst (λ (p : ℕ). P p j k) c.first a))
