-- A copy in the order of a walk is canonical, and means the same.
use Rattle.std.proofs.Common.{◌≡◌, ℕ, zero, suc, ◌+◌, ◌<◌, List, [], ◌∷◌, ◌++◌, length, refl, sym, ap, ◌∙◌, subst, inl, inr, arith}
use Rattle.std.specs.Prelude.{Option, None, Some, nat_eq, cond, slice_get}
use Rattle.std.proofs.lemmas.Bool.{cases_Bool, cond-true, cond-false, eqb-true, eq-eqb, false_from_ne_true}
use Rattle.std.proofs.lemmas.Grind.{merely}
use Rattle.std.proofs.lemmas.Option.{same_Some}
use Rattle.wpds_base.specs.Lists.{IsIn}
use Rattle.diagram_store.specs.declared.branch.Branch.{Branch}
use Rattle.diagram_store.specs.Nodes.{node_at, IsReduced}
use Rattle.diagram_store.specs.Meaning.{value_at, TellsReferences}
use Rattle.diagram_store.specs.Canonical.{IsWalked, constant, again, leaves, IsCanonical}
use Rattle.diagram_store.proofs.CallerLemmas.{node_within, node_there, no_node, constant_below, value_at_node, value_at_end}
use Rattle.diagram_ops.specs.private.Scratch.{Keeps}
use Rattle.diagram_ops.specs.private.Copying.{IsCopied, IsCopy, Copies}
use Rattle.diagram_ops.proofs.KeepingLemmas.{same_cond, keeps_same, keeps_both, keeps_within, keeps_above, keeps_value}
use Rattle.diagram_ops.proofs.PushLemmas.{node_push, node_last, keeps_push, reduced_push}

-- a walk comes to the same among more nodes
walk_kept : (a b : List Branch) → Keeps a b → (left : List Branch) (r : ℕ) (after : List Branch) → IsWalked a left r after → IsWalked b left r after
walk_kept a b k left r after (constant small) = constant small
walk_kept a b k left r after (again {n = n} at is) = again (k.each r n at) is
walk_kept a b k left r next (leaves {middle = middle} {after = after} {n = n} at low high) =
    leaves (k.each r n at) (walk_kept a b k left n.low middle low) (walk_kept a b k middle n.high after high)

stands_in : {X : Type 0} (xs : List X) (i : ℕ) (x : X) → slice_get xs i ≡ Some x → IsIn x xs
stands_in [] i x e = cc
stands_in (y ∷ ys) zero x e = inl (same_Some y x e)
stands_in (y ∷ ys) (suc i) x e = inr (stands_in ys i x e)

-- what was left is not walked again
walk_stays : (nodes : List Branch) (r : ℕ) → r < length nodes + 2 → IsWalked nodes nodes r nodes
walk_stays nodes zero w = constant (omega arith)
walk_stays nodes (suc zero) w = constant (omega arith)
walk_stays nodes (suc (suc i)) w = let n = node_there nodes (suc (suc i)) (omega arith) w in again n.1 (stands_in nodes i n.0 n.1)

copied_kept : (s : List Branch) (r : ℕ) (a b : List Branch) (p : ℕ) → IsReduced a → IsReduced b → Keeps a b → IsCopied s r a p → IsCopied s r b p
copied_kept s r a b p whole other k c = record {
  from = c.from;
  to = keeps_within a b k p c.to;
  means = λ bits. keeps_value a whole b other k p c.to bits ∙ c.means bits;
  above = λ v h. keeps_above a b k v p c.to (c.above v h);
}

-- what is copied already
pub copies_placed : (s : List Branch) (places : ℕ → Option ℕ) (out : List Branch) (r p : ℕ) → IsCopy s places out → places r ≡ Some p → Copies s places out places out r p
copies_placed s places out r p c e = record {
  copy = c;
  keeps = keeps_same out;
  others = λ k h. refl;
  copied = c.placed r p e;
  walk = walk_stays out p (c.placed r p e).to;
}

-- a constant
pub copies_constant : (s : List Branch) (places : ℕ → Option ℕ) (out : List Branch) (r : ℕ) → IsCopy s places out → r < length s + 2 → node_at s r ≡ None → Copies s places out places out r r
copies_constant s places out r c w none =
    let small = constant_below s r w none in
    record {
      copy = c;
      keeps = keeps_same out;
      others = λ k h. refl;
      copied = record {
        from = w;
        to = omega arith;
        means = λ bits. value_at_end out r bits (no_node out r small) ∙ sym (value_at_end s r bits none);
        above = λ v h n e. let f : None ≡ Some n = sym (no_node out r small) ∙ e in cc;
      };
      walk = constant small;
    }

module _ (s : List Branch) (whole : IsReduced s) (tells : TellsReferences s) (r : ℕ) (n : Branch) (at : node_at s r ≡ Some n)
    (places0 : ℕ → Option ℕ) (out0 : List Branch) (places1 : ℕ → Option ℕ) (out1 : List Branch) (places2 : ℕ → Option ℕ) (out2 : List Branch) (l h : ℕ)
    (low : Copies s places0 out0 places1 out1 n.low l) (high : Copies s places1 out1 places2 out2 n.high h) (none : places0 r ≡ None) where
  abbrev m : Branch
  m = record { var = n.var; low = l; high = h }

  abbrev out3 : List Branch
  out3 = out2 ++ m ∷ []

  abbrev p : ℕ
  p = length out2 + 2

  low_copied : IsCopied s n.low out2 l
  low_copied = copied_kept s n.low out1 out2 l low.copy.reduced high.copy.reduced high.keeps low.copied

  absent : places2 r ≡ None
  absent = let before = whole.earlier r n at in high.others r before.1 ∙ low.others r before.0 ∙ none

  fresh : (q : ℕ) → node_at out2 q ≡ Some m → ⊥
  fresh q e =
      let other = high.copy.every q m e in
      let c = high.copy.placed other.0 q other.1 in
      let is : other.0 ≡ r = tells other.0 r c.from (node_within s r n at).1 (λ bits.
      sym (c.means bits)
      ∙ value_at_node out2 high.copy.reduced q m bits e
      ∙ same_cond (bits n.var) (value_at out2 h bits) (value_at out2 l bits) (value_at s n.high bits) (value_at s n.low bits) (high.copied.means bits) (low_copied.means bits)
      ∙ sym (value_at_node s whole r n bits at)) in
      let f : None ≡ Some q = sym absent ∙ ap places2 (sym is) ∙ other.1 in
      cc

  differs : l ≡ h → ⊥
  differs e = whole.differs r n at (tells n.low n.high low.copied.from high.copied.from (λ bits. sym (low_copied.means bits) ∙ ap (λ k. value_at out2 k bits) e ∙ high.copied.means bits))

  reduced3 : IsReduced out3
  reduced3 =
      let up = whole.rises r n at in
      reduced_push out2 high.copy.reduced m low_copied.to high.copied.to (low_copied.above n.var up.0) (high.copied.above n.var up.1) differs fresh

  keeps3 : Keeps out2 out3
  keeps3 = keeps_push out2 m

  there : node_at out3 p ≡ Some m
  there = node_last out2 m p refl

  copied3 : IsCopied s r out3 p
  copied3 = record {
    from = (node_within s r n at).1;
    to = (node_within out3 p m there).1;
    means = λ bits.
        value_at_node out3 reduced3 p m bits there
        ∙ same_cond (bits n.var) (value_at out3 h bits) (value_at out3 l bits) (value_at s n.high bits) (value_at s n.low bits)
        (keeps_value out2 high.copy.reduced out3 reduced3 keeps3 h high.copied.to bits ∙ high.copied.means bits)
        (keeps_value out2 high.copy.reduced out3 reduced3 keeps3 l low_copied.to bits ∙ low_copied.means bits)
        ∙ sym (value_at_node s whole r n bits at);
    above = λ v b k e. let is : m ≡ k = same_Some m k (sym there ∙ e) in subst (λ (x : Branch). v < x.var) is (b n at);
  }

  module _ (places3 : ℕ → Option ℕ) (noted : (k : ℕ) → places3 k ≡ cond (nat_eq r k) (Some p) (places2 k)) where
    at_other : (k : ℕ) → (r ≡ k → ⊥) → places3 k ≡ places2 k
    at_other k apart = noted k ∙ cond-false (nat_eq r k) (Some p) (places2 k) (false_from_ne_true (nat_eq r k) (λ e. apart (eqb-true r k e)))

    at_itself : places3 r ≡ Some p
    at_itself = noted r ∙ cond-true (nat_eq r r) (Some p) (places2 r) (eq-eqb r r refl)

    placed3 : (k q : ℕ) → places3 k ≡ Some q → IsCopied s k out3 q
    placed3 k q e = elim (cases_Bool (nat_eq r k)) [
      | inl is ↦
          let same : r ≡ k = eqb-true r k is in
          let place : p ≡ q = same_Some p q (sym at_itself ∙ ap places3 same ∙ e) in
          subst (λ (j : ℕ). IsCopied s k out3 j) place (subst (λ (j : ℕ). IsCopied s j out3 p) same copied3)
      | inr apart ↦
          copied_kept s k out2 out3 q high.copy.reduced reduced3 keeps3
          (high.copy.placed k q (sym (noted k ∙ cond-false (nat_eq r k) (Some p) (places2 k) apart) ∙ e))
    ]

    every3 : (q : ℕ) (k : Branch) → node_at out3 q ≡ Some k → (j : ℕ) × (places3 j ≡ Some q)
    every3 q k e = elim (node_push out2 m k q e) [
      | inl old ↦
          let j = high.copy.every q k old in
          (j.0, at_other j.0 (λ is. let f : None ≡ Some q = sym absent ∙ ap places2 is ∙ j.1 in cc) ∙ j.1)
      | inr new ↦ (r, at_itself ∙ ap Some (sym new.0))
    ]

    walk3 : IsWalked out3 out0 p out3
    walk3 = leaves there (walk_kept out1 out3 (keeps_both out1 out2 out3 high.keeps keeps3) out0 l out1 low.walk) (walk_kept out2 out3 keeps3 out1 h out2 high.walk)

    pub copies_node : Copies s places0 out0 places3 out3 r p
    copies_node = record {
      copy = record { reduced = reduced3; placed = placed3; every = every3 };
      keeps = keeps_both out0 out1 out3 low.keeps (keeps_both out1 out2 out3 high.keeps keeps3);
      others = λ k b.
          let before = whole.earlier r n at in
          at_other k (λ is. absurd (omega arith)) ∙ high.others k (omega (arith, before.1)) ∙ low.others k (omega (arith, before.0));
      copied = copied3;
      walk = walk3;
    }

-- a node after its branches, as the code adds it
pub copies_made : (s : List Branch) → IsReduced s → TellsReferences s → (r : ℕ) (n : Branch) → node_at s r ≡ Some n
    → (places0 : ℕ → Option ℕ) (out0 : List Branch) (places1 : ℕ → Option ℕ) (out1 : List Branch) (places2 : ℕ → Option ℕ) (out2 : List Branch) (l h : ℕ)
    → Copies s places0 out0 places1 out1 n.low l → Copies s places1 out1 places2 out2 n.high h → places0 r ≡ None
    → (places3 : ℕ → Option ℕ) (out3 : List Branch) (p : ℕ) → p ≡ length out2 + 2 → out3 ≡ out2 ++ record { var = n.var; low = l; high = h } ∷ []
    → ((k : ℕ) → places3 k ≡ cond (nat_eq r k) (Some p) (places2 k)) → Copies s places0 out0 places3 out3 r p
copies_made s whole tells r n at places0 out0 places1 out1 places2 out2 l h low high none places3 out3 p count is noted =
    let N : ℕ → Type 0 = λ q. (k : ℕ) → places3 k ≡ cond (nat_eq r k) (Some q) (places2 k) in
    let made = copies_node s whole tells r n at places0 out0 places1 out1 places2 out2 l h low high none places3 (subst N count noted) in
    let P : ℕ → Type 0 = λ q. Copies s places0 out0 places3 (out2 ++ record { var = n.var; low = l; high = h } ∷ []) r q in
    let Q : List Branch → Type 0 = λ o. Copies s places0 out0 places3 o r p in
    subst Q (sym is) (subst P (sym count) made)

nowhere : (r : ℕ) (n : Branch) → node_at [] r ≡ Some n → ⊥
nowhere r n e = let w = node_within [] r n e in absurd (omega (arith, w.0, w.1))

none_reduced : IsReduced []
none_reduced = record {
  earlier = λ r n e. absurd (nowhere r n e);
  rises = λ r n e. absurd (nowhere r n e);
  differs = λ r n e same. nowhere r n e;
  distinct = λ r s n e f. absurd (nowhere r n e);
}

-- nothing is copied yet
pub copy_empty : (s : List Branch) (places : ℕ → Option ℕ) (out : List Branch) → ((k : ℕ) → places k ≡ None) → out ≡ [] → IsCopy s places out
copy_empty s places out none e =
    let P : List Branch → Type 0 = λ o. IsCopy s places o in
    subst P (sym e)
    (record {
      reduced = none_reduced;
      placed = λ r p f. let g : None ≡ Some p = sym (none r) ∙ f in cc;
      every = λ p m f. absurd (nowhere p m f);
    })

pub copy_canonical : (s : List Branch) (old new : ℕ → Option ℕ) (before after : List Branch) (r p : ℕ) → before ≡ [] → Copies s old before new after r p → IsCanonical p after
copy_canonical s old new before after r p e c = record {
  reduced = c.copy.reduced;
  post_order = merely (subst (λ (o : List Branch). IsWalked after o p after) e c.walk);
}
