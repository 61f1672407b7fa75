-- One step of the composition of two relations.
use Rattle.std.proofs.Common.{◌≡◌, ℕ, ◌+◌, ◌*◌, ◌/◌, ◌%◌, ◌<◌, ◌≤◌, Bool, true, false, ◌||◌, List, length, refl, sym, ap, ap₂, ◌∙◌, subst, inl, inr, arith}
use Rattle.std.specs.Prelude.{Option, None, Some, ◌⊎◌, IsTrue, nat_eq, cond}
use Rattle.std.proofs.lemmas.Bool.{cond-true, cond-false, cases_Bool, cases_eq, eq-eqb, eqb-true, false_from_ne_true, or_left, or_right, or_cases}
use Rattle.std.proofs.lemmas.Option.{same_Some}
use Rattle.diagram_store.specs.declared.branch.Branch.{Branch}
use Rattle.diagram_store.specs.Nodes.{node_at, IsAbove, IsReduced}
use Rattle.diagram_store.specs.Meaning.{value_at, set_bit}
use Rattle.diagram_store.proofs.CallerLemmas.{constant_below, value_at_end, value_agrees, set_same, set_other}
use Rattle.diagram_ops.specs.declared.composing.Operand.{Operand}
use Rattle.diagram_ops.specs.declared.composing.Operand.TheVariants.{First, Second}
use Rattle.diagram_store.specs.TripleTables.{same_key}
use Rattle.diagram_ops.specs.private.Scratch.{Keeps, Stands, IsPast, IsChoice}
use Rattle.diagram_ops.specs.private.Applying.{AreApplied, Applies, lower, place_in, place, cofactor_at}
use Rattle.diagram_ops.specs.private.Composing.{position, placed_value, IsTrueBetween, IsComposed, ComesBeforeBoth, IsComposition, AreComposed, Composes, IsJoined}
use Rattle.diagram_ops.proofs.KeepingLemmas.{keeps_same, keeps_both, keeps_within, keeps_above, stands_kept}
use Rattle.diagram_ops.proofs.PushLemmas.{key_parts}
use Rattle.diagram_ops.proofs.CofactorLemmas.{Bounds, lower_is, lower_none, none_of_place, node_of_place, place_value, place_smaller, place_within, place_past}
use Rattle.diagram_ops.proofs.QuantifyingLemmas.{or_table}
use Rattle.diagram_ops.proofs.ApplyingLemmas.{value3_same}

pub rises : (operand : Operand) (v w : ℕ) → v < w → position operand v < position operand w
rises First v w h = omega arith
rises Second v w h = omega arith

pub composition_kept : (xs ys old : List Branch) → IsReduced old → (new : List Branch) → IsReduced new → Keeps old new → (x y r : ℕ) → IsComposition xs ys old x y r → IsComposition xs ys new x y r
composition_kept xs ys old whole new other k x y r c = stands_kept old whole new other k r (IsComposed xs ys x y) (ComesBeforeBoth xs ys x y) c

false_constant : (nodes : List Branch) (r : ℕ) (bits : ℕ → Bool) → r ≡ 0 → value_at nodes r bits ≡ false
false_constant nodes r bits e = ap (λ q. value_at nodes q bits) e ∙ value_at_end nodes 0 bits refl

module _ (xs ys nodes : List Branch) (all : IsReduced nodes) (results joins : ℕ → ℕ → ℕ → Option ℕ) (known : AreComposed xs ys nodes results) (applied : AreApplied 252 nodes joins)
    (x y : ℕ) (wx : x < length xs + 2) (wy : y < length ys + 2) where
  -- one of the two is false
  pub composes_never : (x ≡ 0) ⊎ (y ≡ 0) → Composes xs ys nodes nodes results joins x y 0
  composes_never one = record {
    reduced = all;
    keeps = keeps_same nodes;
    known = known;
    applied = applied;
    composed = record {
      within = omega arith;
      means = λ bits. (
        λ yes. let f : false ≡ true = sym (false_constant nodes 0 bits refl) ∙ yes in cc,
        λ o. elim one [
          | inl e ↦ let f : false ≡ true = sym (false_constant xs x (λ v. o.0 (position First v)) e) ∙ o.2 in cc
          | inr e ↦ let f : false ≡ true = sym (false_constant ys y (λ v. o.0 (position Second v)) e) ∙ o.3 in cc
        ],
      );
      above = λ v b n e. cc;
    };
  }

  -- both are true
  pub composes_always : (x ≡ 0 → ⊥) → (y ≡ 0 → ⊥) → None ≡ lower (place (position First) xs x) (place (position Second) ys y) → Composes xs ys nodes nodes results joins x y 1
  composes_always nx ny e =
      let none = lower_none (place (position First) xs x) (place (position Second) ys y) (sym e) in
      let ex = none_of_place (position First) xs x none.0 in
      let ey = none_of_place (position Second) ys y none.1 in
      let bx = constant_below xs x wx ex in
      let by = constant_below ys y wy ey in
      let ix : x ≡ 1 = omega arith in
      let iy : y ≡ 1 = omega arith in
      record {
        reduced = all;
        keeps = keeps_same nodes;
        known = known;
        applied = applied;
        composed = record {
          within = omega arith;
          means = λ bits.
              let spread : ℕ → Bool = λ p. bits (p / 2) in (
                λ yes. (
                  spread,
                  λ v. let is : 2 * v / 2 ≡ v = omega arith in ap bits is,
                  value_at_end xs x (λ v. spread (position First v)) ex ∙ eq-eqb x 1 ix,
                  value_at_end ys y (λ v. spread (position Second v)) ey ∙ eq-eqb y 1 iy,
                ),
                λ o. value_at_end nodes 1 bits refl,
              );
          above = λ v b n f. cc;
        };
      }

  pub composes_known : (r : ℕ) → results x y 0 ≡ Some r → Composes xs ys nodes nodes results joins x y r
  composes_known r e = record { reduced = all; keeps = keeps_same nodes; known = known; applied = applied; composed = known x y r e }

pub record IsLowestPlace (xs ys : List Branch) (x y p : ℕ) : Type 0 where
  pub first : Bounds p (place (position First) xs x)
  pub second : Bounds p (place (position Second) ys y)
  pub one : (place (position First) xs x ≡ Some p) ⊎ (place (position Second) ys y ≡ Some p)

-- by what the references name
pub lowest_read : (xs ys : List Branch) (x y : ℕ) (first second : Option Branch) → first ≡ node_at xs x → second ≡ node_at ys y
    → lower (place_in (position First) first) (place_in (position Second) second) ≡ lower (place (position First) xs x) (place (position Second) ys y)
lowest_read xs ys x y first second e f = ap₂ (λ a b. lower (place_in (position First) a) (place_in (position Second) b)) e f

pub lowest_place : (xs ys : List Branch) (x y p : ℕ) → lower (place (position First) xs x) (place (position Second) ys y) ≡ Some p → IsLowestPlace xs ys x y p
lowest_place xs ys x y p e = let l = lower_is (place (position First) xs x) (place (position Second) ys y) p e in record { first = l.first; second = l.second; one = l.one }

-- as the code names the branches where the bit is b
pub record AreBranches (xs ys : List Branch) (p : ℕ) (b : Bool) (x y i j : ℕ) : Type 0 where
  pub first : i ≡ cofactor_at (position First) xs p b x
  pub second : j ≡ cofactor_at (position Second) ys p b y

-- bits that differ at a place alone
past_value : (operand : Operand) (nodes : List Branch) → IsReduced nodes → (p r : ℕ) → IsPast (position operand) nodes p r → (all : ℕ → Bool) (b : Bool) → placed_value operand nodes r (set_bit all p b) ≡ placed_value operand nodes r all
past_value operand nodes whole p r past all b =
    value_agrees nodes whole (λ v. set_bit all p b (position operand v)) (λ v. all (position operand v)) (λ s. IsPast (position operand) nodes p s)
    (λ s n e i.
    let first : p < position operand n.var = i n e in
    let next = whole.rises s n e in
    let on : (q : ℕ) → IsAbove nodes n.var q → IsPast (position operand) nodes p q = λ q above m f. let up : position operand n.var < position operand m.var = rises operand n.var m.var (above m f) in omega arith in
    (set_other all p b (position operand n.var) (λ is. absurd (omega arith)), on n.low next.0, on n.high next.1))
    r r (omega arith) past

module _ (xs ys : List Branch) (wholex : IsReduced xs) (wholey : IsReduced ys) (x y p : ℕ) (wx : x < length xs + 2) (wy : y < length ys + 2) (lowest : IsLowestPlace xs ys x y p) where
  -- the branches are smaller together
  pub branches_fall : (b : Bool) (i j : ℕ) → AreBranches xs ys p b x y i j → i + j < x + y
  branches_fall b i j c =
      let cx = place_within (position First) (rises First) xs wholex p b x in
      let cy = place_within (position Second) (rises Second) ys wholey p b y in
      let q : i ≡ cofactor_at (position First) xs p b x = c.first in
      let r : j ≡ cofactor_at (position Second) ys p b y = c.second in
      elim lowest.one [
        | inl e ↦ let s = place_smaller (position First) (rises First) xs wholex p b x e in omega (arith, cx, cy, s)
        | inr e ↦ let s = place_smaller (position Second) (rises Second) ys wholey p b y e in omega (arith, cx, cy, s)
      ]

  pub first_within : (b : Bool) (i : ℕ) → i ≡ cofactor_at (position First) xs p b x → i < length xs + 2
  first_within b i e = let c = place_within (position First) (rises First) xs wholex p b x in omega (arith, c)

  pub second_within : (b : Bool) (j : ℕ) → j ≡ cofactor_at (position Second) ys p b y → j < length ys + 2
  second_within b j e = let c = place_within (position Second) (rises Second) ys wholey p b y in omega (arith, c)

  first_past : (b : Bool) (i : ℕ) → i ≡ cofactor_at (position First) xs p b x → IsPast (position First) xs p i
  first_past b i e = subst (λ (q : ℕ). IsPast (position First) xs p q) (sym e) (place_past (position First) (rises First) xs wholex p b x lowest.first)

  second_past : (b : Bool) (j : ℕ) → j ≡ cofactor_at (position Second) ys p b y → IsPast (position Second) ys p j
  second_past b j e = subst (λ (q : ℕ). IsPast (position Second) ys p q) (sym e) (place_past (position Second) (rises Second) ys wholey p b y lowest.second)

  -- what stays and has no later place comes before the branches
  before : (b : Bool) (i j v : ℕ) → AreBranches xs ys p b x y i j → 2 * v ≤ p → ComesBeforeBoth xs ys i j v
  before b i j v c h = (
    λ n e. let up : p < position First n.var = first_past b i c.first n e in omega arith,
    λ n e. let up : p < position Second n.var = second_past b j c.second n e in omega arith,
  )

  module _ (old : List Branch) (i0 j0 : ℕ) (e0 : AreBranches xs ys p false x y i0 j0) (n1 : List Branch) (k1 o1 : ℕ → ℕ → ℕ → Option ℕ) (l : ℕ) (low : Composes xs ys old n1 k1 o1 i0 j0 l)
      (i1 j1 : ℕ) (e1 : AreBranches xs ys p true x y i1 j1) (n2 : List Branch) (k2 o2 : ℕ → ℕ → ℕ → Option ℕ) (h : ℕ) (high : Composes xs ys n1 n2 k2 o2 i1 j1 h) where
    half : 2 * (p / 2) ≤ p
    half = omega arith

    pub low_within : l < length n2 + 2
    low_within = keeps_within n1 n2 high.keeps l low.composed.within

    pub low_above : IsAbove n2 (p / 2) l
    low_above = keeps_above n1 n2 high.keeps (p / 2) l low.composed.within (low.composed.above (p / 2) (before false i0 j0 (p / 2) e0 half))

    pub high_above : IsAbove n2 (p / 2) h
    high_above = high.composed.above (p / 2) (before true i1 j1 (p / 2) e1 half)

    module _ (n3 : List Branch) (all : IsReduced n3) (keeps : Keeps n2 n3) (r : ℕ) (stands : Stands n3 r (IsJoined n3 p l h) (λ v. 2 * v < p))
        (o3 : ℕ → ℕ → ℕ → Option ℕ) (applied : AreApplied 252 n3 o3)
        (k3 : ℕ → ℕ → ℕ → Option ℕ) (noted : (a b c : ℕ) → k3 a b c ≡ cond (same_key (x, y, 0) (a, b, c)) (Some r) (k2 a b c)) where
      low3 : IsComposition xs ys n3 i0 j0 l
      low3 = composition_kept xs ys n1 low.reduced n3 all (keeps_both n1 n2 n3 high.keeps keeps) i0 j0 l low.composed

      high3 : IsComposition xs ys n3 i1 j1 h
      high3 = composition_kept xs ys n2 high.reduced n3 all keeps i1 j1 h high.composed

      -- a relation's value is that of the way it goes on
      goes_on : (operand : Operand) (nodes : List Branch) → IsReduced nodes → (q i : ℕ) (b : Bool) → i ≡ cofactor_at (position operand) nodes p b q → (bits : ℕ → Bool) → bits p ≡ b
          → placed_value operand nodes q bits ≡ placed_value operand nodes i bits
      goes_on operand nodes whole q i b e bits at =
          place_value (position operand) (rises operand) nodes whole p q bits b at
          ∙ ap (λ s. value_at nodes s (λ v. bits (position operand v))) (sym e)

      -- true on some values with this bit at the place, as the branches are
      on : (b : Bool) (i j : ℕ) → AreBranches xs ys p b x y i j → (bits all : ℕ → Bool) → all p ≡ b → ((v : ℕ) → all (2 * v) ≡ bits v)
          → IsTrue (placed_value First xs i all) → IsTrue (placed_value Second ys j all) → IsTrueBetween xs ys x y bits
      on b i j c bits all at stays ti tj = (all, stays, goes_on First xs wholex x i b c.first all at ∙ ti, goes_on Second ys wholey y j b c.second all at ∙ tj)

      back : (b : Bool) (i j : ℕ) → AreBranches xs ys p b x y i j → (bits : ℕ → Bool) → (o : IsTrueBetween xs ys x y bits) → o.0 p ≡ b → IsTrueBetween xs ys i j bits
      back b i j c bits o at = (o.0, o.1, sym (goes_on First xs wholex x i b c.first o.0 at) ∙ o.2, sym (goes_on Second ys wholey y j b c.second o.0 at) ∙ o.3)

      -- with the bit of a place in the middle set
      with_bit : (b : Bool) (i j : ℕ) → AreBranches xs ys p b x y i j → p % 2 ≡ 1 → (bits : ℕ → Bool) → IsTrueBetween xs ys i j bits → IsTrueBetween xs ys x y bits
      with_bit b i j c odd bits o =
          on b i j c bits (set_bit o.0 p b) (set_same o.0 p b) (λ v. set_other o.0 p b (2 * v) (λ is. absurd (omega arith)) ∙ o.1 v)
          (past_value First xs wholex p i (first_past b i c.first) o.0 b ∙ o.2) (past_value Second ys wholey p j (second_past b j c.second) o.0 b ∙ o.3)

      middle : p % 2 ≡ 1 → (bits : ℕ → Bool) → IsComposed xs ys x y bits (value_at n3 r bits)
      middle odd bits =
          let vl = value_at n3 l bits in
          let vh = value_at n3 h bits in
          let is : value_at n3 r bits ≡ (vl || vh) = stands.means bits ∙ cond-true (nat_eq (p % 2) 1) (vl || vh) (cond (bits (p / 2)) vh vl) (eq-eqb (p % 2) 1 odd) in (
            λ yes. elim (or_cases vl vh (sym is ∙ yes)) [
              | inl e ↦ with_bit false i0 j0 e0 odd bits ((low3.means bits).0 e)
              | inr e ↦ with_bit true i1 j1 e1 odd bits ((high3.means bits).0 e)
            ],
            λ o. is ∙ elim (cases_Bool (o.0 p)) [
              | inl e ↦ or_right vl vh ((high3.means bits).1 (back true i1 j1 e1 bits o e))
              | inr e ↦ or_left vl vh ((low3.means bits).1 (back false i0 j0 e0 bits o e))
            ],
          )

      stays_at : (p % 2 ≡ 1 → ⊥) → (bits all : ℕ → Bool) → ((v : ℕ) → all (2 * v) ≡ bits v) → all p ≡ bits (p / 2)
      stays_at even bits all stays = let is : p ≡ 2 * (p / 2) = omega arith in ap all is ∙ stays (p / 2)

      -- the composition of the branches by the bit of what stays
      one_way : (p % 2 ≡ 1 → ⊥) → (b : Bool) (i j q : ℕ) → AreBranches xs ys p b x y i j → IsComposition xs ys n3 i j q → (bits : ℕ → Bool) → bits (p / 2) ≡ b → value_at n3 r bits ≡ value_at n3 q bits
          → IsComposed xs ys x y bits (value_at n3 r bits)
      one_way even b i j q c composed bits at is = (
        λ yes. let o = (composed.means bits).0 (sym is ∙ yes) in on b i j c bits o.0 (stays_at even bits o.0 o.1 ∙ at) o.1 o.2 o.3,
        λ o. is ∙ (composed.means bits).1 (back b i j c bits o (stays_at even bits o.0 o.1 ∙ at)),
      )

      outside : (p % 2 ≡ 1 → ⊥) → (bits : ℕ → Bool) → IsComposed xs ys x y bits (value_at n3 r bits)
      outside even bits =
          let vl = value_at n3 l bits in
          let vh = value_at n3 h bits in
          let is : value_at n3 r bits ≡ cond (bits (p / 2)) vh vl =
          stands.means bits ∙ cond-false (nat_eq (p % 2) 1) (vl || vh) (cond (bits (p / 2)) vh vl) (false_from_ne_true (nat_eq (p % 2) 1) (λ e. even (eqb-true (p % 2) 1 e))) in
          elim (cases_Bool (bits (p / 2))) [
            | inl e ↦ one_way even true i1 j1 h e1 high3 bits e (is ∙ cond-true (bits (p / 2)) vh vl e)
            | inr e ↦ one_way even false i0 j0 l e0 low3 bits e (is ∙ cond-false (bits (p / 2)) vh vl e)
          ]

      under : (operand : Operand) (nodes : List Branch) (q v : ℕ) → place (position operand) nodes q ≡ Some p → IsPast (position operand) nodes (2 * v) q → 2 * v < p
      under operand nodes q v e past = let n = node_of_place (position operand) nodes q p e in subst (λ (k : ℕ). 2 * v < k) n.2 (past n.0 n.1)

      composed3 : IsComposition xs ys n3 x y r
      composed3 = record {
        within = stands.within;
        means = λ bits. elim (cases_eq (p % 2) 1) [ inl odd ↦ middle odd bits | inr even ↦ outside even bits ];
        above = λ v b. stands.above v (elim lowest.one [ inl e ↦ under First xs x v e b.0 | inr e ↦ under Second ys y v e b.1 ]);
      }

      pub composes_step : Composes xs ys old n3 k3 o3 x y r
      composes_step = record {
        reduced = all;
        keeps = keeps_both old n1 n3 low.keeps (keeps_both n1 n2 n3 high.keeps keeps);
        applied = applied;
        composed = composed3;
        known = λ a b q e. elim (cases_Bool (same_key (x, y, 0) (a, b, 0))) [
          | inl same ↦
              let parts = key_parts x y 0 a b 0 same in
              let is : r ≡ q = same_Some r q (sym (cond-true (same_key (x, y, 0) (a, b, 0)) (Some r) (k2 a b 0) same) ∙ sym (noted a b 0) ∙ e) in
              let P : ℕ → ℕ → ℕ → Type 0 = λ i j m. IsComposition xs ys n3 i j m in
              subst (λ (m : ℕ). P a b m) is (subst (λ (j : ℕ). P a j r) parts.1 (subst (λ (i : ℕ). P i y r) parts.0 composed3))
          | inr apart ↦
              composition_kept xs ys n2 high.reduced n3 all keeps a b q
              (high.known a b q (sym (cond-false (same_key (x, y, 0) (a, b, 0)) (Some r) (k2 a b 0) apart) ∙ sym (noted a b 0) ∙ e))
        ];
      }

-- the disjunction of the branches at a place in the middle
pub joined_stands : (old new : List Branch) (results : ℕ → ℕ → ℕ → Option ℕ) (p low high r : ℕ) → p % 2 ≡ 1 → low < length old + 2 → high < length old + 2
    → IsAbove old (p / 2) low → IsAbove old (p / 2) high → Applies 252 old new results low high 0 r → Stands new r (IsJoined new p low high) (λ v. 2 * v < p)
joined_stands old new results p low high r odd wl wh la ha a =
    let up : (q v : ℕ) → q < length old + 2 → IsAbove old (p / 2) q → 2 * v < p → IsAbove new v q =
    λ q v w above h n e. let b : p / 2 < n.var = keeps_above old new a.keeps (p / 2) q w above n e in omega arith in
    record {
      within = a.applied.stands.within;
      means = λ bits.
          let vl = value_at new low bits in
          let vh = value_at new high bits in
          a.applied.stands.means bits
          ∙ value3_same 252 vl vh (value_at new 0 bits) vl vh false refl refl (value_at_end new 0 bits refl)
          ∙ or_table vl vh
          ∙ sym (cond-true (nat_eq (p % 2) 1) (vl || vh) (cond (bits (p / 2)) vh vl) (eq-eqb (p % 2) 1 odd));
      above = λ v h. a.applied.stands.above v (up low v wl la h, up high v wh ha h, λ n e. cc);
    }

-- the choice by the variable of what stays
pub chosen_stands : (new : List Branch) (p var low high r : ℕ) → (p % 2 ≡ 1 → ⊥) → var ≡ p / 2 → Stands new r (IsChoice new var low high) (λ v. v < var) → Stands new r (IsJoined new p low high) (λ v. 2 * v < p)
chosen_stands new p var low high r even is s = record {
  within = s.within;
  means = λ bits.
      let vl = value_at new low bits in
      let vh = value_at new high bits in
      s.means bits
      ∙ ap (λ v. cond (bits v) vh vl) is
      ∙ sym (cond-false (nat_eq (p % 2) 1) (vl || vh) (cond (bits (p / 2)) vh vl) (false_from_ne_true (nat_eq (p % 2) 1) (λ e. even (eqb-true (p % 2) 1 e))));
  above = λ v h. s.above v (omega arith);
}
