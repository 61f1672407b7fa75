-- What stays as scratch nodes are added.
use Rattle.std.proofs.Common.{◌≡◌, ℕ, zero, suc, ◌+◌, ◌<◌, ◌≤◌, Bool, List, length, sym, ap₂, ◌∙◌, subst, inl, inr, arith}
use Rattle.std.specs.Prelude.{None, Some, cond}
use Rattle.std.proofs.lemmas.Bool.{cases_lt}
use Rattle.std.proofs.lemmas.Option.{same_Some}
use Rattle.diagram_store.specs.declared.branch.Branch.{Branch}
use Rattle.diagram_store.specs.Nodes.{node_at, IsAbove, IsReduced}
use Rattle.diagram_store.specs.Meaning.{value_at}
use Rattle.diagram_store.proofs.CallerLemmas.{option_cases, node_within, node_there, no_node, constant_below, value_at_end, value_at_node}
use Rattle.diagram_ops.specs.private.Scratch.{Keeps, Stands, IsPast}

pub same_cond : (b : Bool) (x y x' y' : Bool) → x ≡ x' → y ≡ y' → cond b x y ≡ cond b x' y'
same_cond b x y x' y' p q = ap₂ (λ s t. cond b s t) p q

pub keeps_same : (nodes : List Branch) → Keeps nodes nodes
keeps_same nodes = record { each = λ r n e. e }

pub keeps_both : (a b c : List Branch) → Keeps a b → Keeps b c → Keeps a c
keeps_both a b c k l = record { each = λ r n e. l.each r n (k.each r n e) }

pub keeps_within : (old new : List Branch) → Keeps old new → (r : ℕ) → r < length old + 2 → r < length new + 2
keeps_within old new k r w = elim (cases_lt r 2) [
  | inl small ↦ omega arith
  | inr node ↦ let n = node_there old r node w in (node_within new r n.0 (k.each r n.0 n.1)).1
]

pub keeps_past : (order : ℕ → ℕ) (old new : List Branch) → Keeps old new → (p r : ℕ) → r < length old + 2 → IsPast order old p r → IsPast order new p r
keeps_past order old new k p r w past n e = elim (cases_lt r 2) [
  | inl small ↦ let f : None ≡ Some n = sym (no_node new r small) ∙ e in cc
  | inr node ↦
      let m = node_there old r node w in
      let is : m.0 ≡ n = same_Some m.0 n (sym (k.each r m.0 m.1) ∙ e) in
      subst (λ (x : Branch). p < order x.var) is (past m.0 m.1)
]

pub keeps_above : (old new : List Branch) → Keeps old new → (v r : ℕ) → r < length old + 2 → IsAbove old v r → IsAbove new v r
keeps_above old new k v r w above = keeps_past (λ x. x) old new k v r w above

module _ (old : List Branch) (whole : IsReduced old) (new : List Branch) (other : IsReduced new) (k : Keeps old new) where
  kept_value : (d r : ℕ) → r ≤ d → r < length old + 2 → (bits : ℕ → Bool) → value_at new r bits ≡ value_at old r bits
  kept_value zero r h w bits = value_at_end new r bits (no_node new r (omega arith)) ∙ sym (value_at_end old r bits (no_node old r (omega arith)))
  kept_value (suc d) r h w bits = elim (option_cases (node_at old r)) [
    | inl none ↦ value_at_end new r bits (no_node new r (constant_below old r w none)) ∙ sym (value_at_end old r bits none)
    | inr n ↦
        let before = whole.earlier r n.0 n.1 in
        value_at_node new other r n.0 bits (k.each r n.0 n.1)
        ∙ same_cond (bits n.0.var) (value_at new n.0.high bits) (value_at new n.0.low bits) (value_at old n.0.high bits) (value_at old n.0.low bits)
        (kept_value d n.0.high (omega (arith, before.1)) (omega (arith, before.1)) bits)
        (kept_value d n.0.low (omega (arith, before.0)) (omega (arith, before.0)) bits)
        ∙ sym (value_at_node old whole r n.0 bits n.1)
  ]

  pub keeps_value : (r : ℕ) → r < length old + 2 → (bits : ℕ → Bool) → value_at new r bits ≡ value_at old r bits
  keeps_value r w bits = kept_value r r (omega arith) w bits

  pub stands_kept : (r : ℕ) (meaning : (ℕ → Bool) → Bool → Type 0) (before : ℕ → Type 0) → Stands old r meaning before → Stands new r meaning before
  stands_kept r meaning before s = record {
    within = keeps_within old new k r s.within;
    means = λ bits. let M : Bool → Type 0 = meaning bits in subst M (sym (keeps_value r s.within bits)) (s.means bits);
    above = λ v b. keeps_above old new k v r s.within (s.above v b);
  }
