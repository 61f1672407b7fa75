-- Equal values come from equal nodes.
use Rattle.std.proofs.Common.{◌≡◌, ℕ, zero, suc, ◌+◌, ◌<◌, ◌≤◌, Bool, true, false, List, length, sym, ap, ◌∙◌, subst, inl, inr, arith}
use Rattle.std.specs.Prelude.{None, Some, nat_eq, cond}
use Rattle.std.proofs.lemmas.Bool.{cases_lt, cases_eq, eq-eqb, eqb-true}
use Rattle.diagram_store.specs.declared.branch.Branch.{Branch}
use Rattle.diagram_store.specs.Nodes.{node_at, IsAbove, IsReduced}
use Rattle.diagram_store.specs.Meaning.{value_at, set_bit}
use Rattle.diagram_store.proofs.NodeLemmas.{option_cases, node_within, constant_below, one_node}
use Rattle.diagram_store.proofs.ValueLemmas.{value_at_end, value_at_node, value_above, set_same, set_other}

-- two references, each to a list of its own, have equal values on all bits
abbrev pub Same : List Branch → ℕ → List Branch → ℕ → Type 0
Same a r b s = (bits : ℕ → Bool) → value_at a r bits ≡ value_at b s bits

pub same_sym : (a : List Branch) (r : ℕ) (b : List Branch) (s : ℕ) → Same a r b s → Same b s a r
same_sym a r b s same bits = sym (same bits)

module _ (a : List Branch) (whole : IsReduced a) (r : ℕ) (n : Branch) (at : node_at a r ≡ Some n) where
  -- the branches of a node, by its value with its bit set
  pub low_value : (bits : ℕ → Bool) → value_at a n.low bits ≡ value_at a r (set_bit bits n.var false)
  low_value bits =
      value_above a whole n.var n.low bits (set_bit bits n.var false) (whole.rises r n at).0
      (λ k above. sym (set_other bits n.var false k (λ e. absurd (omega arith))))
      ∙ sym (value_at_node a whole r n (set_bit bits n.var false) at
      ∙ ap (λ b. cond b (value_at a n.high (set_bit bits n.var false)) (value_at a n.low (set_bit bits n.var false))) (set_same bits n.var false))

  pub high_value : (bits : ℕ → Bool) → value_at a n.high bits ≡ value_at a r (set_bit bits n.var true)
  high_value bits =
      value_above a whole n.var n.high bits (set_bit bits n.var true) (whole.rises r n at).1
      (λ k above. sym (set_other bits n.var true k (λ e. absurd (omega arith))))
      ∙ sym (value_at_node a whole r n (set_bit bits n.var true) at
      ∙ ap (λ b. cond b (value_at a n.high (set_bit bits n.var true)) (value_at a n.low (set_bit bits n.var true))) (set_same bits n.var true))

  -- a value that does not read the variable of a node is not the node's, unless both branches are the same
  pub one_value : ((bits : ℕ → Bool) → value_at a r (set_bit bits n.var false) ≡ value_at a r (set_bit bits n.var true)) → Same a n.low a n.high
  one_value same bits = low_value bits ∙ same bits ∙ sym (high_value bits)

  module _ (b : List Branch) (other : IsReduced b) (s : ℕ) (same : Same a r b s) where
    pub above_apart : IsAbove b n.var s → Same a n.low a n.high
    above_apart above =
        one_value (λ bits.
        same (set_bit bits n.var false)
        ∙ value_above b other n.var s (set_bit bits n.var false) (set_bit bits n.var true) above
        (λ k h. set_other bits n.var false k (λ e. absurd (omega arith)) ∙ sym (set_other bits n.var true k (λ e. absurd (omega arith))))
        ∙ sym (same (set_bit bits n.var true)))

module _ (a : List Branch) (whole : IsReduced a) (r : ℕ) (n : Branch) (at : node_at a r ≡ Some n)
    (b : List Branch) (other : IsReduced b) (s : ℕ) (m : Branch) (there : node_at b s ≡ Some m) (same : Same a r b s) (var : n.var ≡ m.var) where
  pub same_low : Same a n.low b m.low
  same_low bits =
      low_value a whole r n at bits ∙ same (set_bit bits n.var false)
      ∙ ap (λ v. value_at b s (set_bit bits v false)) var
      ∙ sym (low_value b other s m there bits)

  pub same_high : Same a n.high b m.high
  same_high bits =
      high_value a whole r n at bits ∙ same (set_bit bits n.var true)
      ∙ ap (λ v. value_at b s (set_bit bits v true)) var
      ∙ sym (high_value b other s m there bits)

pub from_parts : (n m : Branch) → n.var ≡ m.var → n.low ≡ m.low → n.high ≡ m.high → n ≡ m
from_parts n m v l h =
    let made : ℕ → ℕ → ℕ → Branch = λ a b c. record { var = a; low = b; high = c } in
    ap (λ x. made x n.low n.high) v ∙ ap (λ x. made m.var x n.high) l ∙ ap (λ x. made m.var m.low x) h

above_end : (nodes : List Branch) (v r : ℕ) → node_at nodes r ≡ None → IsAbove nodes v r
above_end nodes v r none n e = let f : None ≡ Some n = sym none ∙ e in cc

above_node : (nodes : List Branch) (v r : ℕ) (n : Branch) → node_at nodes r ≡ Some n → v < n.var → IsAbove nodes v r
above_node nodes v r n at less m e = let f : n ≡ m = one_node nodes r n m at e in subst (λ (k : Branch). v < k.var) f less

-- one of two constants, by its value
constant_by_value : (r s : ℕ) → r < 2 → s < 2 → nat_eq r 1 ≡ nat_eq s 1 → r ≡ s
constant_by_value r s a b e = elim (cases_eq r 1) [
  | inl is ↦ is ∙ sym (eqb-true s 1 (sym e ∙ eq-eqb r 1 is))
  | inr apart ↦ elim (cases_eq s 1) [
    | inl is ↦ absurd (apart (eqb-true r 1 (e ∙ eq-eqb s 1 is)))
    | inr apart' ↦ omega arith
  ]
]

pub branches_within : (nodes : List Branch) → IsReduced nodes → (k : ℕ) (n : Branch) → node_at nodes k ≡ Some n → (n.low < length nodes + 2) × (n.high < length nodes + 2)
branches_within nodes all k n e =
    let w = node_within nodes k n e in
    let before = all.earlier k n e in
    (omega (arith, w.1, before.0), omega (arith, w.1, before.1))

-- the branches of a node up to a limit differ in value, if references below the limit do
differ : (nodes : List Branch) → IsReduced nodes → (d : ℕ) → ((r s : ℕ) → r ≤ d → s ≤ d → r < length nodes + 2 → s < length nodes + 2 → Same nodes r nodes s → r ≡ s)
    → (k : ℕ) (n : Branch) → node_at nodes k ≡ Some n → k ≤ suc d → Same nodes n.low nodes n.high → ⊥
differ nodes all d lower k n e b same =
    let before = all.earlier k n e in
    let w = branches_within nodes all k n e in
    all.differs k n e (lower n.low n.high (omega (arith, before.0)) (omega (arith, before.1)) w.0 w.1 same)

next_reference : (nodes : List Branch) → IsReduced nodes → (d : ℕ) → ((r s : ℕ) → r ≤ d → s ≤ d → r < length nodes + 2 → s < length nodes + 2 → Same nodes r nodes s → r ≡ s)
    → (r s : ℕ) → r ≤ suc d → s ≤ suc d → r < length nodes + 2 → s < length nodes + 2 → Same nodes r nodes s → r ≡ s
next_reference nodes all d lower r s h h' w w' same = elim (option_cases (node_at nodes r)) [
  | inl none ↦ elim (option_cases (node_at nodes s)) [
    | inl none' ↦
        constant_by_value r s (constant_below nodes r w none) (constant_below nodes s w' none')
        (sym (value_at_end nodes r (λ _. false) none) ∙ same (λ _. false) ∙ value_at_end nodes s (λ _. false) none')
    | inr m ↦
        absurd (differ nodes all d lower s m.0 m.1 h' (above_apart nodes all s m.0 m.1 nodes all r (same_sym nodes r nodes s same) (above_end nodes m.0.var r none)))
  ]
  | inr n ↦ elim (option_cases (node_at nodes s)) [
    | inl none' ↦ absurd (differ nodes all d lower r n.0 n.1 h (above_apart nodes all r n.0 n.1 nodes all s same (above_end nodes n.0.var s none')))
    | inr m ↦ elim (cases_eq n.0.var m.0.var) [
      | inl var ↦
          let w1 = branches_within nodes all r n.0 n.1 in
          let w2 = branches_within nodes all s m.0 m.1 in
          let b1 = all.earlier r n.0 n.1 in
          let b2 = all.earlier s m.0 m.1 in
          let e : n.0 ≡ m.0 = from_parts n.0 m.0 var
          (lower n.0.low m.0.low (omega (arith, b1.0)) (omega (arith, b2.0)) w1.0 w2.0 (same_low nodes all r n.0 n.1 nodes all s m.0 m.1 same var))
          (lower n.0.high m.0.high (omega (arith, b1.1)) (omega (arith, b2.1)) w1.1 w2.1 (same_high nodes all r n.0 n.1 nodes all s m.0 m.1 same var)) in
          all.distinct r s n.0 n.1 (m.1 ∙ ap Some (sym e))
      | inr varies ↦ elim (cases_lt n.0.var m.0.var) [
        | inl less ↦ absurd (differ nodes all d lower r n.0 n.1 h (above_apart nodes all r n.0 n.1 nodes all s same (above_node nodes n.0.var s m.0 m.1 less)))
        | inr more ↦
            absurd (differ nodes all d lower s m.0 m.1 h' (above_apart nodes all s m.0 m.1 nodes all r (same_sym nodes r nodes s same) (above_node nodes m.0.var r n.0 n.1 (omega arith))))
      ]
    ]
  ]
]

references : (nodes : List Branch) → IsReduced nodes → (d r s : ℕ) → r ≤ d → s ≤ d → r < length nodes + 2 → s < length nodes + 2 → Same nodes r nodes s → r ≡ s
references nodes all zero r s h h' w w' same = omega arith
references nodes all (suc d) r s h h' w w' same = next_reference nodes all d (references nodes all d) r s h h' w w' same

-- among reduced nodes, references with equal values are one
pub one_reference : (nodes : List Branch) → IsReduced nodes → (r s : ℕ) → r < length nodes + 2 → s < length nodes + 2 → Same nodes r nodes s → r ≡ s
one_reference nodes all r s w w' same = references nodes all (length nodes + 2) r s (omega arith) (omega arith) w w' same

pub branches_apart : (nodes : List Branch) → IsReduced nodes → (k : ℕ) (n : Branch) → node_at nodes k ≡ Some n → Same nodes n.low nodes n.high → ⊥
branches_apart nodes all k n e same = let w = branches_within nodes all k n e in all.differs k n e (one_reference nodes all n.low n.high w.0 w.1 same)

module _ (a : List Branch) (whole : IsReduced a) (b : List Branch) (other : IsReduced b) where
  -- a node's equal in another list is a node of the same variable
  pub same_is_node : (r s : ℕ) (n : Branch) → node_at a r ≡ Some n → Same a r b s → (m : Branch) × (node_at b s ≡ Some m) × (n.var ≡ m.var)
  same_is_node r s n at same = elim (option_cases (node_at b s)) [
    | inl none ↦ absurd (branches_apart a whole r n at (above_apart a whole r n at b other s same (above_end b n.var s none)))
    | inr m ↦ elim (cases_eq n.var m.0.var) [
      | inl var ↦ (m.0, m.1, var)
      | inr varies ↦ elim (cases_lt n.var m.0.var) [
        | inl less ↦ absurd (branches_apart a whole r n at (above_apart a whole r n at b other s same (above_node b n.var s m.0 m.1 less)))
        | inr more ↦
            absurd (branches_apart b other s m.0 m.1 (above_apart b other s m.0 m.1 a whole r (same_sym a r b s same) (above_node a m.0.var r n at (omega arith))))
      ]
    ]
  ]
