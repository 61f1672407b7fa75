-- One step of the disjunction or the conjunction of two references of a table.
use Rattle.std.proofs.Common.{◌≡◌, ℕ, ◌+◌, ◌<◌, ◌≤◌, Bool, true, false, ◌||◌, ◌&&◌, List, length, refl, sym, ap, ap₂, ◌∙◌, subst, inl, inr, arith}
use Rattle.std.specs.Prelude.{Option, None, Some, ◌⊎◌, nat_eq, cond}
use Rattle.truth_tables.specs.Tables.{value3_of}
use Rattle.diagram_store.specs.TripleTables.{same_key}
use Rattle.diagram_store.specs.declared.branch.Branch.{Branch}
use Rattle.diagram_store.specs.Nodes.{node_at, IsAbove, IsReduced, HasVariablesBelow}
use Rattle.diagram_store.specs.Meaning.{value_at}
use Rattle.diagram_store.proofs.CallerLemmas.{value_at_end}
use Rattle.diagram_ops.specs.declared.uniting.Junction.{Junction}
use Rattle.diagram_ops.specs.declared.uniting.Junction.TheVariants.{Or, And}
use Rattle.diagram_ops.specs.NodeTables.{Keeps, KeepsLimits}
use Rattle.diagram_ops.specs.private.Scratch.{Stands, IsChoice}
use Rattle.diagram_ops.specs.private.Applying.{variable, lower, cofactor, ComesBefore, IsApplied, AreApplied, Applies}
use Rattle.diagram_ops.specs.private.KeptResults.{IsResult}
use Rattle.diagram_ops.specs.private.ShortCuts.{IsShortCut}
use Rattle.diagram_ops.specs.private.Tables.{Grows}
use Rattle.diagram_ops.specs.private.Uniting.{table_of, absorbing_of, operation_of, AreThese}
use Rattle.diagram_ops.proofs.KeepingLemmas.{keeps_same, keeps_both, keeps_within}
use Rattle.diagram_ops.proofs.CofactorLemmas.{node_of_variable}
use Rattle.diagram_ops.proofs.ShortCutLemmas.{applies_at_once}
use Rattle.diagram_ops.proofs.ApplyingLemmas as applying

pub grows_same : (nodes : List Branch) → IsReduced nodes → Grows nodes nodes
grows_same nodes all = record { reduced = all; keeps = keeps_same nodes; limits = λ limit h. h }

pub grows_both : (a b c : List Branch) → Grows a b → Grows b c → Grows a c
grows_both a b c g h = record { reduced = h.reduced; keeps = keeps_both a b c g.keeps h.keeps; limits = λ limit below. h.limits limit (g.limits limit below) }

-- no results beside those of the table
abbrev pub nothing : ℕ → ℕ → ℕ → Option ℕ
nothing x y z = None

pub none_applied : (table : ℕ) (nodes : List Branch) → AreApplied table nodes nothing
none_applied table nodes x y z r e = cc

-- the result of a short cut
pub applied_at_once : (table : ℕ) (nodes : List Branch) (x y r : ℕ) → IsReduced nodes → x < length nodes + 2 → y < length nodes + 2 → IsShortCut table x y 0 r → IsApplied table nodes x y 0 r
applied_at_once table nodes x y r all wx wy s = (applies_at_once table nodes nothing x y 0 r all (none_applied table nodes) wx wy (omega arith) s).applied

swapped : (junction : Junction) (a b c : Bool) → value3_of (table_of junction) a b c ≡ value3_of (table_of junction) b a c
swapped Or true true true = refl
swapped Or true true false = refl
swapped Or true false true = refl
swapped Or true false false = refl
swapped Or false true true = refl
swapped Or false true false = refl
swapped Or false false true = refl
swapped Or false false false = refl
swapped And true true true = refl
swapped And true true false = refl
swapped And true false true = refl
swapped And true false false = refl
swapped And false true true = refl
swapped And false true false = refl
swapped And false false true = refl
swapped And false false false = refl

exchanged : (junction : Junction) (nodes : List Branch) (a b r : ℕ) → IsApplied (table_of junction) nodes a b 0 r → IsApplied (table_of junction) nodes b a 0 r
exchanged junction nodes a b r p = record {
  first = p.second;
  second = p.first;
  third = p.third;
  stands = record {
    within = p.stands.within;
    means = λ bits. p.stands.means bits ∙ swapped junction (value_at nodes a bits) (value_at nodes b bits) (value_at nodes 0 bits);
    above = λ v h. p.stands.above v (h.1, h.0, h.2);
  };
}

-- in either order
pub either_way : (junction : Junction) (nodes : List Branch) (x y a b r : ℕ) → AreThese x y a b → IsApplied (table_of junction) nodes a b 0 r → IsApplied (table_of junction) nodes x y 0 r
either_way junction nodes x y a b r these p =
    let P : ℕ → ℕ → Type 0 = λ i j. IsApplied (table_of junction) nodes i j 0 r in
    elim these [
      | inl e ↦ subst (λ (j : ℕ). P x j) e.1 (subst (λ (i : ℕ). P i b) e.0 p)
      | inr e ↦ exchanged junction nodes y x r (subst (λ (j : ℕ). P y j) e.1 (subst (λ (i : ℕ). P i b) e.0 p))
    ]

pub these_within : (x y a b n : ℕ) → AreThese x y a b → x < n → y < n → (a < n) × (b < n)
these_within x y a b n these wx wy = elim these [
  | inl e ↦ let f : a ≡ x = e.0 in let g : b ≡ y = e.1 in (omega arith, omega arith)
  | inr e ↦ let f : a ≡ y = e.0 in let g : b ≡ x = e.1 in (omega arith, omega arith)
]

pub these_sum : (x y a b : ℕ) → AreThese x y a b → a + b ≡ x + y
these_sum x y a b these = elim these [
  | inl e ↦ let f : a ≡ x = e.0 in let g : b ≡ y = e.1 in omega arith
  | inr e ↦ let f : a ≡ y = e.0 in let g : b ≡ x = e.1 in omega arith
]

-- as a result that is kept
pub as_result : (junction : Junction) (nodes : List Branch) (a b r : ℕ) → IsApplied (table_of junction) nodes a b 0 r → IsResult (operation_of junction) nodes a b r
as_result Or nodes a b r p = p
as_result And nodes a b r p = p

pub from_result : (junction : Junction) (nodes : List Branch) (a b r : ℕ) → IsResult (operation_of junction) nodes a b r → IsApplied (table_of junction) nodes a b 0 r
from_result Or nodes a b r p = p
from_result And nodes a b r p = p

lower_end : (o : Option ℕ) → lower o None ≡ o
lower_end None = refl
lower_end (Some v) = refl

module _ (table : ℕ) (old : List Branch) (whole : IsReduced old) (a b v : ℕ) (wa : a < length old + 2) (wb : b < length old + 2) (lowest : lower (variable old a) (variable old b) ≡ Some v) where
  is_lowest : applying.IsLowest old a b 0 v
  is_lowest = applying.lowest_is old a b 0 v (lower_end (lower (variable old a) (variable old b)) ∙ lowest)

  cofactors : (bit : Bool) (i j : ℕ) → i ≡ cofactor old v bit a → j ≡ cofactor old v bit b → applying.AreCofactors old v bit a b 0 i j 0
  cofactors bit i j e f = record { first = e; second = f; third = refl }

  -- the operands on a way on are smaller together
  pub ways_fall : (bit : Bool) (i j : ℕ) → i ≡ cofactor old v bit a → j ≡ cofactor old v bit b → i + j < a + b
  ways_fall bit i j e f = let h = applying.operands_fall old whole a b 0 v is_lowest bit i j 0 (cofactors bit i j e f) in omega (arith, h)

  pub way_within : (new : List Branch) → Keeps old new → (bit : Bool) (x i : ℕ) → x < length old + 2 → i ≡ cofactor old v bit x → i < length new + 2
  way_within new k bit x i w e = applying.operand_within old new whole k v bit x i w e

  -- the variable is one of those that were there
  pub below_limit : (limit : ℕ) → HasVariablesBelow limit old → v < limit
  below_limit limit all =
      let at : (q : ℕ) → variable old q ≡ Some v → v < limit = λ q e. let n = node_of_variable old q v e in subst (λ (k : ℕ). k < limit) n.2 (all q n.0 n.1) in
      elim is_lowest.one [ inl e ↦ at a e | inr e ↦ elim e [ inl f ↦ at b f | inr f ↦ at 0 f ] ]

  module _ (i0 j0 : ℕ) (ei0 : i0 ≡ cofactor old v false a) (ej0 : j0 ≡ cofactor old v false b) (n1 : List Branch) (l : ℕ) (g1 : Grows old n1) (low : IsApplied table n1 i0 j0 0 l)
      (i1 j1 : ℕ) (ei1 : i1 ≡ cofactor old v true a) (ej1 : j1 ≡ cofactor old v true b) (n2 : List Branch) (h : ℕ) (g2 : Grows n1 n2) (high : IsApplied table n2 i1 j1 0 h) where
    low_step : Applies table old n1 nothing (cofactor old v false a) (cofactor old v false b) (cofactor old v false 0) l
    low_step = applying.applies_at table old n1 nothing old v false a b 0 i0 j0 0 l (cofactors false i0 j0 ei0 ej0)
        (record { reduced = g1.reduced; keeps = g1.keeps; known = none_applied table n1; applied = low })

    high_step : Applies table n1 n2 nothing (cofactor old v true a) (cofactor old v true b) (cofactor old v true 0) h
    high_step = applying.applies_at table n1 n2 nothing old v true a b 0 i1 j1 0 h (cofactors true i1 j1 ei1 ej1)
        (record { reduced = g2.reduced; keeps = g2.keeps; known = none_applied table n2; applied = high })

    w0 : 0 < length old + 2
    w0 = omega arith

    pub low_within : l < length n2 + 2
    low_within = applying.low_within table old whole a b 0 v wa wb w0 is_lowest n1 nothing l low_step n2 nothing h high_step

    pub low_above : IsAbove n2 v l
    low_above = applying.low_above table old whole a b 0 v wa wb w0 is_lowest n1 nothing l low_step n2 nothing h high_step

    pub high_above : IsAbove n2 v h
    high_above = applying.high_above table old whole a b 0 v wa wb w0 is_lowest n1 nothing l low_step n2 nothing h high_step

    module _ (n3 : List Branch) (all : IsReduced n3) (keeps : Keeps n2 n3) where
      pub united_grows : ((limit : ℕ) → v < limit → HasVariablesBelow limit n2 → HasVariablesBelow limit n3) → Grows old n3
      united_grows limits = record {
        reduced = all;
        keeps = keeps_both old n1 n3 g1.keeps (keeps_both n1 n2 n3 g2.keeps keeps);
        limits = λ limit below. limits limit (below_limit limit below) (g2.limits limit (g1.limits limit below));
      }

      pub united : (r : ℕ) → Stands n3 r (IsChoice n3 v l h) (λ u. u < v) → IsApplied table n3 a b 0 r
      united r stands = (applying.applies_step table old whole a b 0 v wa wb w0 is_lowest n1 nothing l low_step n2 nothing h high_step
          n3 all keeps r stands (λ p q s. cond (same_key (a, b, 0) (p, q, s)) (Some r) None) (λ p q s. refl)).applied

or_value : (a b : Bool) → value3_of 252 a b false ≡ (a || b)
or_value true true = refl
or_value true false = refl
or_value false true = refl
or_value false false = refl

and_value : (a b : Bool) → value3_of 192 a b false ≡ (a && b)
and_value true true = refl
and_value true false = refl
and_value false true = refl
and_value false false = refl

value_with : (table : ℕ) (nodes : List Branch) (x y r : ℕ) → IsApplied table nodes x y 0 r → (bits : ℕ → Bool) → value_at nodes r bits ≡ value3_of table (value_at nodes x bits) (value_at nodes y bits) false
value_with table nodes x y r p bits = p.stands.means bits ∙ ap (value3_of table (value_at nodes x bits) (value_at nodes y bits)) (value_at_end nodes 0 bits refl)

-- the values of the results
pub union_value : (nodes : List Branch) (x y r : ℕ) → IsApplied 252 nodes x y 0 r → (bits : ℕ → Bool) → value_at nodes r bits ≡ (value_at nodes x bits || value_at nodes y bits)
union_value nodes x y r p bits = value_with 252 nodes x y r p bits ∙ or_value (value_at nodes x bits) (value_at nodes y bits)

pub intersection_value : (nodes : List Branch) (x y r : ℕ) → IsApplied 192 nodes x y 0 r → (bits : ℕ → Bool) → value_at nodes r bits ≡ (value_at nodes x bits && value_at nodes y bits)
intersection_value nodes x y r p bits = value_with 192 nodes x y r p bits ∙ and_value (value_at nodes x bits) (value_at nodes y bits)

-- the values of a constant and another, and of two that are equal
same_value : (junction : Junction) (b : Bool) → b ≡ value3_of (table_of junction) b b false
same_value Or true = refl
same_value Or false = refl
same_value And true = refl
same_value And false = refl

-- both are equal
pub once_same : (junction : Junction) (x y : ℕ) → x ≡ y → IsShortCut (table_of junction) x y 0 x
once_same junction x y e = record {
  among = inr (inl refl);
  value = λ bit v. same_value junction (bit x) ∙ ap₂ (λ (b c : Bool). value3_of (table_of junction) (bit x) b c) (ap bit e) (sym v.0);
}

or_first : (b c : Bool) → value3_of 252 true b c ≡ true
or_first true true = refl
or_first true false = refl
or_first false true = refl
or_first false false = refl

or_other : (b : Bool) → value3_of 252 false b false ≡ b
or_other true = refl
or_other false = refl

and_first : (b c : Bool) → value3_of 192 false b c ≡ false
and_first true true = refl
and_first true false = refl
and_first false true = refl
and_first false false = refl

and_other : (b : Bool) → value3_of 192 true b false ≡ b
and_other true = refl
and_other false = refl

-- the first is the constant that decides
pub once_first : (junction : Junction) (x y : ℕ) → x ≡ absorbing_of junction → IsShortCut (table_of junction) x y 0 x
once_first Or x y e = record {
  among = inr (inl refl);
  value = λ bit v. let h : bit x ≡ true = ap bit e ∙ v.1 in h ∙ sym (ap (λ t. value3_of 252 t (bit y) (bit 0)) h ∙ or_first (bit y) (bit 0));
}
once_first And x y e = record {
  among = inr (inl refl);
  value = λ bit v. let h : bit x ≡ false = ap bit e ∙ v.0 in h ∙ sym (ap (λ t. value3_of 192 t (bit y) (bit 0)) h ∙ and_first (bit y) (bit 0));
}

-- the first is the constant that changes nothing
pub once_other : (junction : Junction) (x y : ℕ) → x < 2 → (x ≡ absorbing_of junction → ⊥) → IsShortCut (table_of junction) x y 0 y
once_other Or x y below apart =
    let e : x ≡ 0 = omega arith in
    record {
      among = inr (inr (inl refl));
      value = λ bit v. sym (ap₂ (λ (p q : Bool). value3_of 252 p (bit y) q) (ap bit e ∙ v.0) v.0 ∙ or_other (bit y));
    }
once_other And x y below apart =
    let e : x ≡ 1 = omega arith in
    record {
      among = inr (inr (inl refl));
      value = λ bit v. sym (ap₂ (λ (p q : Bool). value3_of 192 p (bit y) q) (ap bit e ∙ v.1) v.0 ∙ and_other (bit y));
    }

-- by the second
pub once_swapped : (junction : Junction) (x y r : ℕ) → IsShortCut (table_of junction) y x 0 r → IsShortCut (table_of junction) x y 0 r
once_swapped junction x y r s = record {
  among = elim s.among [ inl below ↦ inl below | inr e ↦ elim e [ inl f ↦ inr (inr (inl f)) | inr f ↦ elim f [ inl g ↦ inr (inl g) | inr g ↦ inr (inr (inr g)) ] ] ];
  value = λ bit v. s.value bit v ∙ swapped junction (bit y) (bit x) (bit 0);
}
