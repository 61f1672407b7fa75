-- The lowest place of references in an order of their variables, and where the walk goes on from them by the
-- bit there.
use Rattle.std.proofs.Common.{◌≡◌, ℕ, ◌<◌, ◌≤◌, Bool, true, false, List, refl, sym, ap, ◌∙◌, subst, inl, inr, arith}
use Rattle.std.specs.Prelude.{Option, None, Some, ◌⊎◌, nat_eq, nat_le, cond, option_map}
use Rattle.std.proofs.lemmas.Bool.{cond-true, cond-false, cond_both, cases_Bool, eqb-true, eq-eqb, leb-true, le-leb}
use Rattle.std.proofs.lemmas.Option.{same_Some}
use Rattle.diagram_store.specs.declared.branch.Branch.{Branch}
use Rattle.diagram_store.specs.Nodes.{node_at, IsAbove, IsReduced}
use Rattle.diagram_store.specs.Meaning.{value_at}
use Rattle.diagram_store.proofs.CallerLemmas.{option_cases, value_at_node}
use Rattle.diagram_ops.specs.private.Applying.{variable, place, lower, cofactor_of, cofactor_at, cofactor}
use Rattle.diagram_ops.specs.private.Scratch.{IsPast}

pub variable_of : (nodes : List Branch) (r : ℕ) (n : Branch) → node_at nodes r ≡ Some n → variable nodes r ≡ Some n.var
variable_of nodes r n e = ap (option_map (λ k. k.var)) e

node_of : (order : ℕ → ℕ) (o : Option Branch) (p : ℕ) → option_map (λ n. order n.var) o ≡ Some p → (n : Branch) × (o ≡ Some n) × (order n.var ≡ p)
node_of order None p e = cc
node_of order (Some n) p e = (n, refl, same_Some (order n.var) p e)

pub node_of_place : (order : ℕ → ℕ) (nodes : List Branch) (r p : ℕ) → place order nodes r ≡ Some p → (n : Branch) × (node_at nodes r ≡ Some n) × (order n.var ≡ p)
node_of_place order nodes r p e = node_of order (node_at nodes r) p e

pub node_of_variable : (nodes : List Branch) (r v : ℕ) → variable nodes r ≡ Some v → (n : Branch) × (node_at nodes r ≡ Some n) × (n.var ≡ v)
node_of_variable nodes r v e = node_of (λ k. k) (node_at nodes r) v e

none_of : (order : ℕ → ℕ) (o : Option Branch) → option_map (λ n. order n.var) o ≡ None → o ≡ None
none_of order None e = refl
none_of order (Some n) e = cc

pub none_of_place : (order : ℕ → ℕ) (nodes : List Branch) (r : ℕ) → place order nodes r ≡ None → node_at nodes r ≡ None
none_of_place order nodes r e = none_of order (node_at nodes r) e

pub none_of_variable : (nodes : List Branch) (r : ℕ) → variable nodes r ≡ None → node_at nodes r ≡ None
none_of_variable nodes r e = none_of (λ k. k) (node_at nodes r) e

-- a lower bound of a variable that there may be
abbrev pub Bounds : ℕ → Option ℕ → Type 0
Bounds v o = (w : ℕ) → o ≡ Some w → v ≤ w

pub record IsLower (a b : Option ℕ) (v : ℕ) : Type 0 where
  pub first : Bounds v a
  pub second : Bounds v b
  pub one : (a ≡ Some v) ⊎ (b ≡ Some v)

itself : (v w : ℕ) → Some v ≡ Some w → w ≤ v
itself v w e = let f : v ≡ w = same_Some v w e in omega arith

pub lower_is : (a b : Option ℕ) (v : ℕ) → lower a b ≡ Some v → IsLower a b v
lower_is None b v e = record { first = λ w f. cc; second = λ w f. itself w v (sym f ∙ e); one = inr e }
lower_is (Some x) None v e = record { first = λ w f. itself w v (sym f ∙ e); second = λ w f. cc; one = inl e }
lower_is (Some x) (Some y) v e = elim (cases_Bool (nat_le x y)) [
  | inl le ↦
      let is : Some x ≡ Some v = sym (cond-true (nat_le x y) (Some x) (Some y) le) ∙ e in
      let f : x ≡ v = same_Some x v is in
      let g : x ≤ y = leb-true x y le in
      record {
        first = λ w h. let k : x ≡ w = same_Some x w h in omega arith;
        second = λ w h. let k : y ≡ w = same_Some y w h in omega arith;
        one = inl is;
      }
  | inr more ↦
      let is : Some y ≡ Some v = sym (cond-false (nat_le x y) (Some x) (Some y) more) ∙ e in
      let f : y ≡ v = same_Some y v is in
      let g : x ≤ y → ⊥ = λ le. let t : true ≡ false = sym (le-leb x y le) ∙ more in cc in
      record {
        first = λ w h. let k : x ≡ w = same_Some x w h in omega arith;
        second = λ w h. let k : y ≡ w = same_Some y w h in omega arith;
        one = inr is;
      }
]

pub lower_none : (a b : Option ℕ) → lower a b ≡ None → (a ≡ None) × (b ≡ None)
lower_none None b e = (refl, e)
lower_none (Some x) None e = cc
lower_none (Some x) (Some y) e = elim (cases_Bool (nat_le x y)) [
  | inl le ↦ let f : Some x ≡ None = sym (cond-true (nat_le x y) (Some x) (Some y) le) ∙ e in cc
  | inr more ↦ let f : Some y ≡ None = sym (cond-false (nat_le x y) (Some x) (Some y) more) ∙ e in cc
]

module _ (order : ℕ → ℕ) (rises : (v w : ℕ) → v < w → order v < order w) (nodes : List Branch) (all : IsReduced nodes) (p : ℕ) where
  -- a reference whose node, if it is one, has another place, or this one
  cofactor_cases : (b : Bool) (r : ℕ) → ((cofactor_at order nodes p b r ≡ r) × ((n : Branch) → node_at nodes r ≡ Some n → order n.var ≡ p → ⊥))
      ⊎ ((n : Branch) × (node_at nodes r ≡ Some n) × (order n.var ≡ p) × (cofactor_at order nodes p b r ≡ cond b n.high n.low))
  cofactor_cases b r = elim (option_cases (node_at nodes r)) [
    | inl none ↦ inl (ap (cofactor_of order p b r) none, λ n e is. let f : None ≡ Some n = sym none ∙ e in cc)
    | inr n ↦ elim (cases_Bool (nat_eq (order n.0.var) p)) [
      | inl is ↦ inr (n.0, n.1, eqb-true (order n.0.var) p is, ap (cofactor_of order p b r) n.1 ∙ cond-true (nat_eq (order n.0.var) p) (cond b n.0.high n.0.low) r is)
      | inr apart ↦
          inl (
            ap (cofactor_of order p b r) n.1 ∙ cond-false (nat_eq (order n.0.var) p) (cond b n.0.high n.0.low) r apart,
            λ m e is.
                let f : n.0 ≡ m = same_Some n.0 m (sym n.1 ∙ e) in
                let g : true ≡ false = sym (eq-eqb (order n.0.var) p (ap (λ k. order k.var) f ∙ is)) ∙ apart in
                cc,
          )
    ]
  ]

  value_by_bit : (n : Branch) (bits : ℕ → Bool) (b : Bool) → cond b (value_at nodes n.high bits) (value_at nodes n.low bits) ≡ value_at nodes (cond b n.high n.low) bits
  value_by_bit n bits true = refl
  value_by_bit n bits false = refl

  pub place_value : (r : ℕ) (bits : ℕ → Bool) (b : Bool) → bits p ≡ b → value_at nodes r (λ v. bits (order v)) ≡ value_at nodes (cofactor_at order nodes p b r) (λ v. bits (order v))
  place_value r bits b e =
      let seen : ℕ → Bool = λ v. bits (order v) in
      elim (cofactor_cases b r) [
        | inl h ↦ ap (λ k. value_at nodes k seen) (sym h.0)
        | inr h ↦
            value_at_node nodes all r h.0 seen h.1
            ∙ ap (λ k. cond k (value_at nodes h.0.high seen) (value_at nodes h.0.low seen)) (ap bits h.2 ∙ e)
            ∙ value_by_bit h.0 seen b
            ∙ ap (λ k. value_at nodes k seen) (sym h.3)
      ]

  by_bit : (P : ℕ → Type 0) (b : Bool) (x y : ℕ) → P x → P y → P (cond b x y)
  by_bit P b x y p q = cond_both b x y P (λ _. p) (λ _. q)

  pub place_smaller : (b : Bool) (r : ℕ) → place order nodes r ≡ Some p → cofactor_at order nodes p b r < r
  place_smaller b r e = elim (cofactor_cases b r) [
    | inl h ↦ let n = node_of_place order nodes r p e in absurd (h.1 n.0 n.1 n.2)
    | inr h ↦ let before = all.earlier r h.0 h.1 in subst (λ (k : ℕ). k < r) (sym h.3) (by_bit (λ k. k < r) b h.0.high h.0.low before.1 before.0)
  ]

  pub place_within : (b : Bool) (r : ℕ) → cofactor_at order nodes p b r ≤ r
  place_within b r = elim (cofactor_cases b r) [
    | inl h ↦ let e : cofactor_at order nodes p b r ≡ r = h.0 in omega arith
    | inr h ↦
        let before = all.earlier r h.0 h.1 in
        let low : h.0.low ≤ r = omega (arith, before.0) in
        let high : h.0.high ≤ r = omega (arith, before.1) in
        subst (λ (k : ℕ). k ≤ r) (sym h.3) (by_bit (λ k. k ≤ r) b h.0.high h.0.low high low)
  ]

  -- past the place where that is the lowest
  pub place_past : (b : Bool) (r : ℕ) → Bounds p (place order nodes r) → IsPast order nodes p (cofactor_at order nodes p b r)
  place_past b r bounds = elim (cofactor_cases b r) [
    | inl h ↦
        subst (λ (k : ℕ). IsPast order nodes p k) (sym h.0)
        (λ n e. let le : p ≤ order n.var = bounds (order n.var) (ap (option_map (λ k. order k.var)) e) in let apart : order n.var ≡ p → ⊥ = h.1 n e in omega arith)
    | inr h ↦
        let up = all.rises r h.0 h.1 in
        let past : (q : ℕ) → IsAbove nodes h.0.var q → IsPast order nodes (order h.0.var) q = λ q above n e. rises h.0.var n.var (above n e) in
        let P : ℕ → Type 0 = λ k. IsPast order nodes k (cond b h.0.high h.0.low) in
        subst (λ (k : ℕ). IsPast order nodes p k) (sym h.3)
        (subst P h.2 (by_bit (λ k. IsPast order nodes (order h.0.var) k) b h.0.high h.0.low (past h.0.high up.1) (past h.0.low up.0)))
  ]

-- in the order of the variables themselves
module _ (nodes : List Branch) (all : IsReduced nodes) (v : ℕ) where
  pub cofactor_value : (r : ℕ) (bits : ℕ → Bool) (b : Bool) → bits v ≡ b → value_at nodes r bits ≡ value_at nodes (cofactor nodes v b r) bits
  cofactor_value r bits b e = place_value (λ k. k) (λ j k h. h) nodes all v r bits b e

  pub cofactor_smaller : (b : Bool) (r : ℕ) → variable nodes r ≡ Some v → cofactor nodes v b r < r
  cofactor_smaller b r e = place_smaller (λ k. k) (λ j k h. h) nodes all v b r e

  pub cofactor_within : (b : Bool) (r : ℕ) → cofactor nodes v b r ≤ r
  cofactor_within b r = place_within (λ k. k) (λ j k h. h) nodes all v b r

  pub cofactor_above : (b : Bool) (r : ℕ) → Bounds v (variable nodes r) → IsAbove nodes v (cofactor nodes v b r)
  cofactor_above b r bounds = place_past (λ k. k) (λ j k h. h) nodes all v b r bounds
