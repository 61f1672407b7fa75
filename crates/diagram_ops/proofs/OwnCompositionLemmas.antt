-- One step of the composition of two references of a table.
use Rattle.std.proofs.Common.{◌≡◌, ℕ, ◌+◌, ◌*◌, ◌/◌, ◌%◌, ◌<◌, ◌≤◌, Bool, true, false, List, length, refl, sym, ap, ◌∙◌, subst, inl, inr, arith}
use Rattle.std.specs.Prelude.{Option, None, Some, ◌⊎◌, ◌↔◌, IsTrue, nat_eq, cond, option_map}
use Rattle.diagram_store.specs.TripleTables.{same_key}
use Rattle.diagram_store.specs.declared.branch.Branch.{Branch}
use Rattle.diagram_store.specs.Nodes.{node_at, IsAbove, IsReduced, HasVariablesBelow}
use Rattle.diagram_ops.specs.declared.composing.Operand.{Operand}
use Rattle.diagram_ops.specs.declared.composing.Operand.TheVariants.{First, Second}
use Rattle.diagram_ops.specs.NodeTables.{Keeps, KeepsLimits, leads_at}
use Rattle.diagram_ops.specs.private.Scratch.{Stands}
use Rattle.diagram_ops.specs.private.Applying.{lower, place_in, place, cofactor_at, IsApplied, Applies}
use Rattle.diagram_ops.specs.private.Composing.{position, AreComposed, IsComposition, Composes, IsJoined}
use Rattle.diagram_ops.specs.private.KeptResults.{IsOwnComposition}
use Rattle.diagram_ops.specs.private.Tables.{Grows}
use Rattle.diagram_ops.proofs.KeepingLemmas.{keeps_both, keeps_within}
use Rattle.diagram_ops.proofs.CofactorLemmas.{node_of_place}
use Rattle.diagram_ops.proofs.KeptResultLemmas.{over_more, over_less}
use Rattle.diagram_ops.proofs.RelationLemmas.{leads_composed}
use Rattle.diagram_ops.proofs.UnitingLemmas.{nothing, none_applied}
use Rattle.diagram_ops.proofs.ComposingLemmas as composing

none_composed : (xs ys nodes : List Branch) → AreComposed xs ys nodes nothing
none_composed xs ys nodes x y r e = cc

-- one of the two is false
pub own_never : (nodes : List Branch) → IsReduced nodes → (x y : ℕ) → x < length nodes + 2 → y < length nodes + 2 → (x ≡ 0) ⊎ (y ≡ 0) → IsOwnComposition nodes x y 0
own_never nodes all x y wx wy one = record {
  first = wx;
  second = wy;
  composed = (composing.composes_never nodes nodes nodes all nothing nothing (none_composed nodes nodes nodes) (none_applied 252 nodes) x y wx wy one).composed;
}

-- both are true
pub own_always : (nodes : List Branch) → IsReduced nodes → (x y : ℕ) → x < length nodes + 2 → y < length nodes + 2 → (x ≡ 0 → ⊥) → (y ≡ 0 → ⊥)
    → None ≡ lower (place (position First) nodes x) (place (position Second) nodes y) → IsOwnComposition nodes x y 1
own_always nodes all x y wx wy nx ny e = record {
  first = wx;
  second = wy;
  composed = (composing.composes_always nodes nodes nodes all nothing nothing (none_composed nodes nodes nodes) (none_applied 252 nodes) x y wx wy nx ny e).composed;
}

half_first : (v p : ℕ) → position First v ≡ p → p % 2 ≡ 0 → p / 2 ≡ v
half_first v p e even = let f : 4 * (v / 2) + v % 2 ≡ p = e in omega arith

half_second : (v p : ℕ) → position Second v ≡ p → p % 2 ≡ 0 → p / 2 ≡ v
half_second v p e even = let f : 4 * (v / 2) + v % 2 + 1 ≡ p = e in omega arith

module _ (old : List Branch) (whole : IsReduced old) (x y p : ℕ) (wx : x < length old + 2) (wy : y < length old + 2)
    (found : lower (place (position First) old x) (place (position Second) old y) ≡ Some p) where
  lowest : composing.IsLowestPlace old old x y p
  lowest = composing.lowest_place old old x y p found

  branches : (b : Bool) (i j : ℕ) → i ≡ cofactor_at (position First) old p b x → j ≡ cofactor_at (position Second) old p b y → composing.AreBranches old old p b x y i j
  branches b i j e f = record { first = e; second = f }

  -- the branches are smaller together
  pub own_fall : (b : Bool) (i j : ℕ) → i ≡ cofactor_at (position First) old p b x → j ≡ cofactor_at (position Second) old p b y → i + j < x + y
  own_fall b i j e f = composing.branches_fall old old whole whole x y p wx wy lowest b i j (branches b i j e f)

  first_within : (b : Bool) (i : ℕ) → i ≡ cofactor_at (position First) old p b x → i < length old + 2
  first_within b i e = composing.first_within old old whole whole x y p wx wy lowest b i e

  second_within : (b : Bool) (j : ℕ) → j ≡ cofactor_at (position Second) old p b y → j < length old + 2
  second_within b j e = composing.second_within old old whole whole x y p wx wy lowest b j e

  pub own_first : (new : List Branch) → Keeps old new → (b : Bool) (i : ℕ) → i ≡ cofactor_at (position First) old p b x → i < length new + 2
  own_first new k b i e = keeps_within old new k i (first_within b i e)

  pub own_second : (new : List Branch) → Keeps old new → (b : Bool) (j : ℕ) → j ≡ cofactor_at (position Second) old p b y → j < length new + 2
  own_second new k b j e = keeps_within old new k j (second_within b j e)

  -- the variable of what stays is one of those that were there
  pub own_limit : (limit : ℕ) → HasVariablesBelow limit old → p % 2 ≡ 0 → p / 2 < limit
  own_limit limit all even = elim lowest.one [
    | inl e ↦ let n = node_of_place (position First) old x p e in subst (λ (k : ℕ). k < limit) (sym (half_first n.0.var p n.2 even)) (all x n.0 n.1)
    | inr e ↦ let n = node_of_place (position Second) old y p e in subst (λ (k : ℕ). k < limit) (sym (half_second n.0.var p n.2 even)) (all y n.0 n.1)
  ]

  module _ (i0 j0 : ℕ) (ei0 : i0 ≡ cofactor_at (position First) old p false x) (ej0 : j0 ≡ cofactor_at (position Second) old p false y)
      (n1 : List Branch) (l : ℕ) (g1 : Grows old n1) (low : IsOwnComposition n1 i0 j0 l)
      (i1 j1 : ℕ) (ei1 : i1 ≡ cofactor_at (position First) old p true x) (ej1 : j1 ≡ cofactor_at (position Second) old p true y)
      (n2 : List Branch) (h : ℕ) (g2 : Grows n1 n2) (high : IsOwnComposition n2 i1 j1 h) where
    keeps2 : Keeps old n2
    keeps2 = keeps_both old n1 n2 g1.keeps g2.keeps

    low_step : Composes old old old n1 nothing nothing i0 j0 l
    low_step = record {
      reduced = g1.reduced;
      keeps = g1.keeps;
      known = none_composed old old n1;
      applied = none_applied 252 n1;
      composed = over_less old whole n1 g1.reduced g1.keeps n1 i0 j0 l (first_within false i0 ei0) (second_within false j0 ej0) low.composed;
    }

    high_step : Composes old old n1 n2 nothing nothing i1 j1 h
    high_step = record {
      reduced = g2.reduced;
      keeps = g2.keeps;
      known = none_composed old old n2;
      applied = none_applied 252 n2;
      composed = over_less old whole n2 g2.reduced keeps2 n2 i1 j1 h (first_within true i1 ei1) (second_within true j1 ej1) high.composed;
    }

    pub own_low_within : l < length n2 + 2
    own_low_within = composing.low_within old old whole whole x y p wx wy lowest old i0 j0 (branches false i0 j0 ei0 ej0) n1 nothing nothing l low_step
        i1 j1 (branches true i1 j1 ei1 ej1) n2 nothing nothing h high_step

    pub own_low_above : IsAbove n2 (p / 2) l
    own_low_above = composing.low_above old old whole whole x y p wx wy lowest old i0 j0 (branches false i0 j0 ei0 ej0) n1 nothing nothing l low_step
        i1 j1 (branches true i1 j1 ei1 ej1) n2 nothing nothing h high_step

    pub own_high_above : IsAbove n2 (p / 2) h
    own_high_above = composing.high_above old old whole whole x y p wx wy lowest old i0 j0 (branches false i0 j0 ei0 ej0) n1 nothing nothing l low_step
        i1 j1 (branches true i1 j1 ei1 ej1) n2 nothing nothing h high_step

    module _ (n3 : List Branch) (all : IsReduced n3) (keeps : Keeps n2 n3) where
      keeps3 : Keeps old n3
      keeps3 = keeps_both old n2 n3 keeps2 keeps

      pub own_grows : ((limit : ℕ) → (p % 2 ≡ 0 → p / 2 < limit) → HasVariablesBelow limit n2 → HasVariablesBelow limit n3) → Grows old n3
      own_grows limits = record {
        reduced = all;
        keeps = keeps3;
        limits = λ limit below. limits limit (own_limit limit below) (g2.limits limit (g1.limits limit below));
      }

      pub own_step : (r : ℕ) → Stands n3 r (IsJoined n3 p l h) (λ v. 2 * v < p) → IsOwnComposition n3 x y r
      own_step r stands = record {
        first = keeps_within old n3 keeps3 x wx;
        second = keeps_within old n3 keeps3 y wy;
        composed = over_more old whole n3 all keeps3 n3 x y r wx wy
            ((composing.composes_step old old whole whole x y p wx wy lowest old i0 j0 (branches false i0 j0 ei0 ej0) n1 nothing nothing l low_step
            i1 j1 (branches true i1 j1 ei1 ej1) n2 nothing nothing h high_step n3 all keeps r stands nothing (none_applied 252 n3)
            (λ a b c. cond (same_key (x, y, 0) (a, b, c)) (Some r) None) (λ a b c. refl)).composed);
      }

-- the disjunction at a place in the middle
pub own_joined : (old new : List Branch) (p low high r : ℕ) → p % 2 ≡ 1 → low < length old + 2 → high < length old + 2 → IsAbove old (p / 2) low → IsAbove old (p / 2) high
    → Grows old new → IsApplied 252 new low high 0 r → Stands new r (IsJoined new p low high) (λ v. 2 * v < p)
own_joined old new p low high r odd wl wh la ha g a = composing.joined_stands old new nothing p low high r odd wl wh la ha
    (record { reduced = g.reduced; keeps = g.keeps; known = none_applied 252 new; applied = a })

-- as relations between states
pub own_leads : (nodes : List Branch) → IsReduced nodes → (x y r : ℕ) → IsOwnComposition nodes x y r → (old new : ℕ → Bool)
    → IsTrue (leads_at nodes r old new) ↔ ((middle : ℕ → Bool) × IsTrue (leads_at nodes x old middle) × IsTrue (leads_at nodes y middle new))
own_leads nodes all x y r c old new = leads_composed nodes nodes all all x y nodes r c.composed.means old new

-- by what the references name
pub own_lowest : (nodes : List Branch) (x y : ℕ) (first second : Option Branch) → first ≡ node_at nodes x → second ≡ node_at nodes y
    → lower (place_in (position First) first) (place_in (position Second) second) ≡ lower (place (position First) nodes x) (place (position Second) nodes y)
own_lowest nodes x y first second e f = composing.lowest_read nodes nodes x y first second e f

-- no place in the middle
pub own_chosen : (p : ℕ) → (p % 2 ≡ 1 → ⊥) → p % 2 ≡ 0
own_chosen p odd = omega arith
