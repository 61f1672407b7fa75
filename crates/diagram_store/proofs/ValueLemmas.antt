-- The value at a reference.
use Rattle.std.proofs.Common.{◌≡◌, ℕ, zero, suc, ◌<◌, ◌≤◌, Bool, true, false, List, refl, sym, ap, ◌∙◌, inl, inr, arith}
use Rattle.std.specs.Prelude.{None, Some, nat_eq, cond}
use Rattle.std.proofs.lemmas.Bool.{cond_both, cond-true, cond-false, eq-eqb, eqb-true, false_from_ne_true}
use Rattle.diagram_store.specs.declared.branch.Branch.{Branch}
use Rattle.diagram_store.specs.Nodes.{node_at, IsAbove, IsReduced}
use Rattle.diagram_store.specs.Meaning.{branch_by, step, walk, value_at, set_bit}
use Rattle.diagram_store.proofs.NodeLemmas.{option_cases, no_node}

walk_at_node : (nodes : List Branch) (bits : ℕ → Bool) (d r : ℕ) (n : Branch) → node_at nodes r ≡ Some n → walk nodes bits (suc d) r ≡ walk nodes bits d (branch_by bits n)
unfolding walk
walk_at_node nodes bits d r n e = ap (step (walk nodes bits d) bits r) e

walk_at_end : (nodes : List Branch) (bits : ℕ → Bool) (d r : ℕ) → node_at nodes r ≡ None → walk nodes bits d r ≡ nat_eq r 1
unfolding walk
walk_at_end nodes bits zero r e = refl
walk_at_end nodes bits (suc d) r e = ap (step (walk nodes bits d) bits r) e

-- what holds of both branches holds of the one that the walk takes
pub by_branch : (P : ℕ → Type 0) (bits : ℕ → Bool) (n : Branch) → P n.low → P n.high → P (branch_by bits n)
by_branch P bits n low high = cond_both (bits n.var) n.high n.low P (λ _. high) (λ _. low)

-- the value where there is no node
pub value_at_end : (nodes : List Branch) (r : ℕ) (bits : ℕ → Bool) → node_at nodes r ≡ None → value_at nodes r bits ≡ nat_eq r 1
value_at_end nodes r bits e = walk_at_end nodes bits r r e

pub same_cond : (b : Bool) (x y x' y' : Bool) → x ≡ x' → y ≡ y' → cond b x y ≡ cond b x' y'
same_cond true x y x' y' p q = p
same_cond false x y x' y' p q = q

cond_value : (nodes : List Branch) (bits : ℕ → Bool) (b : Bool) (x y : ℕ) → value_at nodes (cond b x y) bits ≡ cond b (value_at nodes x bits) (value_at nodes y bits)
cond_value nodes bits true x y = refl
cond_value nodes bits false x y = refl

module _ (nodes : List Branch) (all : IsReduced nodes) where
  walk_deeper : (bits : ℕ → Bool) (d e r : ℕ) → r ≤ d → r ≤ e → walk nodes bits d r ≡ walk nodes bits e r
  walk_deeper bits zero e r h h' =
      let none : node_at nodes r ≡ None = no_node nodes r (omega arith) in
      walk_at_end nodes bits zero r none ∙ sym (walk_at_end nodes bits e r none)
  walk_deeper bits (suc d) zero r h h' =
      let none : node_at nodes r ≡ None = no_node nodes r (omega arith) in
      walk_at_end nodes bits (suc d) r none ∙ sym (walk_at_end nodes bits zero r none)
  walk_deeper bits (suc d) (suc e) r h h' = elim (option_cases (node_at nodes r)) [
    | inl none ↦ walk_at_end nodes bits (suc d) r none ∙ sym (walk_at_end nodes bits (suc e) r none)
    | inr some ↦
        let before = all.earlier r some.0 some.1 in
        let below : branch_by bits some.0 < r = by_branch (λ k. k < r) bits some.0 before.0 before.1 in
        walk_at_node nodes bits d r some.0 some.1
        ∙ walk_deeper bits d e (branch_by bits some.0) (omega arith) (omega arith)
        ∙ sym (walk_at_node nodes bits e r some.0 some.1)
  ]

  -- the value at a node is that of the branch by its bit
  pub value_by_branch : (r : ℕ) (n : Branch) (bits : ℕ → Bool) → node_at nodes r ≡ Some n → value_at nodes r bits ≡ value_at nodes (branch_by bits n) bits
  value_by_branch zero n bits e = cc
  value_by_branch (suc d) n bits e =
      let before = all.earlier (suc d) n e in
      let below : branch_by bits n < suc d = by_branch (λ k. k < suc d) bits n before.0 before.1 in
      walk_at_node nodes bits d (suc d) n e ∙ walk_deeper bits d (branch_by bits n) (branch_by bits n) (omega arith) (omega arith)

  pub value_at_node : (r : ℕ) (n : Branch) (bits : ℕ → Bool) → node_at nodes r ≡ Some n
      → value_at nodes r bits ≡ cond (bits n.var) (value_at nodes n.high bits) (value_at nodes n.low bits)
  value_at_node r n bits e = value_by_branch r n bits e ∙ cond_value nodes bits (bits n.var) n.high n.low

  pub value_of_high : (r : ℕ) (n : Branch) (bits : ℕ → Bool) → node_at nodes r ≡ Some n → bits n.var ≡ true → value_at nodes r bits ≡ value_at nodes n.high bits
  value_of_high r n bits e b = value_at_node r n bits e ∙ cond-true (bits n.var) (value_at nodes n.high bits) (value_at nodes n.low bits) b

  pub value_of_low : (r : ℕ) (n : Branch) (bits : ℕ → Bool) → node_at nodes r ≡ Some n → bits n.var ≡ false → value_at nodes r bits ≡ value_at nodes n.low bits
  value_of_low r n bits e b = value_at_node r n bits e ∙ cond-false (bits n.var) (value_at nodes n.high bits) (value_at nodes n.low bits) b

  -- bits that agree on every variable that the walk can read
  module _ (bits other : ℕ → Bool) (I : ℕ → Type 0)
      (agrees : (r : ℕ) (n : Branch) → node_at nodes r ≡ Some n → I r → (bits n.var ≡ other n.var) × I n.low × I n.high) where
    pub value_agrees : (d r : ℕ) → r ≤ d → I r → value_at nodes r bits ≡ value_at nodes r other
    value_agrees zero r h i =
        let none : node_at nodes r ≡ None = no_node nodes r (omega arith) in
        value_at_end nodes r bits none ∙ sym (value_at_end nodes r other none)
    value_agrees (suc d) r h i = elim (option_cases (node_at nodes r)) [
      | inl none ↦ value_at_end nodes r bits none ∙ sym (value_at_end nodes r other none)
      | inr n ↦
          let next = agrees r n.0 n.1 i in
          let before = all.earlier r n.0 n.1 in
          value_at_node r n.0 bits n.1
          ∙ same_cond (bits n.0.var) (value_at nodes n.0.high bits) (value_at nodes n.0.low bits) (value_at nodes n.0.high other) (value_at nodes n.0.low other)
          (value_agrees d n.0.high (omega (arith, before.1)) next.2) (value_agrees d n.0.low (omega (arith, before.0)) next.1)
          ∙ ap (λ b. cond b (value_at nodes n.0.high other) (value_at nodes n.0.low other)) next.0
          ∙ sym (value_at_node r n.0 other n.1)
    ]

  -- no bit up to a variable is read above it
  pub value_above : (v r : ℕ) (bits other : ℕ → Bool) → IsAbove nodes v r → ((k : ℕ) → v < k → bits k ≡ other k) → value_at nodes r bits ≡ value_at nodes r other
  value_above v r bits other above same =
      value_agrees bits other (λ s. IsAbove nodes v s)
      (λ s n e i.
      let next = all.rises s n e in
      let first : v < n.var = i n e in
      (same n.var first, λ m f. let g : n.var < m.var = next.0 m f in omega arith, λ m f. let g : n.var < m.var = next.1 m f in omega arith))
      r r (omega arith) above

pub set_same : (bits : ℕ → Bool) (v : ℕ) (b : Bool) → set_bit bits v b v ≡ b
set_same bits v b = cond-true (nat_eq v v) b (bits v) (eq-eqb v v refl)

pub set_other : (bits : ℕ → Bool) (v : ℕ) (b : Bool) (k : ℕ) → (k ≡ v → ⊥) → set_bit bits v b k ≡ bits k
set_other bits v b k differs = cond-false (nat_eq k v) b (bits k) (false_from_ne_true (nat_eq k v) (λ e. differs (eqb-true k v e)))
