-- A diagram with other variables in the same order is canonical, and reads the bits of these.
use Rattle.std.proofs.Common.{◌≡◌, ℕ, zero, suc, ◌<◌, ◌≤◌, Bool, List, [], ◌∷◌, ◌++◌, length, map, refl, sym, ap, ◌∙◌, subst, inl, inr, arith}
use Rattle.std.specs.Prelude.{None, Some, option_map, slice_index}
use Rattle.std.proofs.lemmas.Bool.{cases_lt}
use Rattle.std.proofs.lemmas.Option.{slice_get-map, same_Some}
use Rattle.std.proofs.Math.Logic.{∥∥₁_map}
use Rattle.wpds_base.specs.Lists.{IsIn}
use Rattle.diagram_store.specs.declared.branch.Branch.{Branch}
use Rattle.diagram_store.specs.Nodes.{node_at, IsAbove, IsReduced, HasVariablesBelow}
use Rattle.diagram_store.specs.Meaning.{value_at}
use Rattle.diagram_store.specs.Canonical.{IsWalked, constant, again, leaves, IsCanonical}
use Rattle.diagram_store.proofs.CallerLemmas.{option_cases, no_node, value_at_node, value_at_end, from_parts}
use Rattle.diagram_ops.specs.Renaming.{AreBelow, Rises, with_variable}
use Rattle.diagram_ops.proofs.KeepingLemmas.{same_cond}

module _ (names : List ℕ) (nodes : List Branch) where
  abbrev new : List Branch
  new = map (with_variable names) nodes

  named_at : (r : ℕ) → node_at new r ≡ option_map (with_variable names) (node_at nodes r)
  named_at zero = refl
  named_at (suc zero) = refl
  named_at (suc (suc k)) = slice_get-map (with_variable names) nodes k

  named_node : (r : ℕ) (n : Branch) → node_at nodes r ≡ Some n → node_at new r ≡ Some (with_variable names n)
  named_node r n e = named_at r ∙ ap (option_map (with_variable names)) e

  named_none : (r : ℕ) → node_at nodes r ≡ None → node_at new r ≡ None
  named_none r e = named_at r ∙ ap (option_map (with_variable names)) e

  -- each node is that of an old one
  old_node : (r : ℕ) (m : Branch) → node_at new r ≡ Some m → (n : Branch) × (node_at nodes r ≡ Some n) × (with_variable names n ≡ m)
  old_node r m e = elim (option_cases (node_at nodes r)) [
    | inl none ↦ let f : None ≡ Some m = sym (named_none r none) ∙ e in cc
    | inr n ↦ (n.0, n.1, same_Some (with_variable names n.0) m (sym (named_node r n.0 n.1) ∙ e))
  ]

  by_old : (P : ℕ → Branch → Type 0) → ((r : ℕ) (n : Branch) → node_at nodes r ≡ Some n → P r (with_variable names n)) → (r : ℕ) (m : Branch) → node_at new r ≡ Some m → P r m
  by_old P old r m e = let o = old_node r m e in subst (λ (k : Branch). P r k) o.2 (old r o.0 o.1)

  named_in : (left : List Branch) (n : Branch) → IsIn n left → IsIn (with_variable names n) (map (with_variable names) left)
  named_in [] n is = is
  named_in (m ∷ ms) n (inl is) = inl (ap (with_variable names) is)
  named_in (m ∷ ms) n (inr is) = inr (named_in ms n is)

  named_last : (left : List Branch) (n : Branch) → map (with_variable names) left ++ with_variable names n ∷ [] ≡ map (with_variable names) (left ++ n ∷ [])
  named_last [] n = refl
  named_last (m ∷ ms) n = ap (λ l. with_variable names m ∷ l) (named_last ms n)

  walk_named : (left : List Branch) (r : ℕ) (after : List Branch) → IsWalked nodes left r after → IsWalked new (map (with_variable names) left) r (map (with_variable names) after)
  walk_named left r after (constant small) = constant small
  walk_named left r after (again {n = n} at is) = again (named_node r n at) (named_in left n is)
  walk_named left r next (leaves {middle = middle} {after = after} {n = n} at low high) =
      subst (λ (l : List Branch). IsWalked new (map (with_variable names) left) r l) (named_last after n)
      (leaves (named_node r n at) (walk_named left n.low middle low) (walk_named middle n.high after high))

  module _ (covers : HasVariablesBelow (length names) nodes) (rises : Rises names) where
    above_named : (v r : ℕ) → IsAbove nodes v r → IsAbove new (slice_index names v) r
    above_named v r above m e =
        by_old (λ s k. IsAbove nodes v s → slice_index names v < k.var) (λ s n f h. rises v n.var (h n f) (covers s n f)) r m e above

    one_name : (r s : ℕ) (n m : Branch) → node_at nodes r ≡ Some n → node_at nodes s ≡ Some m → slice_index names n.var ≡ slice_index names m.var → n.var ≡ m.var
    one_name r s n m e f same = elim (cases_lt n.var m.var) [
      | inl less ↦ let g = rises n.var m.var less (covers s m f) in absurd (omega (arith, g, same))
      | inr more ↦ elim (cases_lt m.var n.var) [
        | inl less ↦ let g = rises m.var n.var less (covers r n e) in absurd (omega (arith, g, same))
        | inr more' ↦ omega arith
      ]
    ]

    module _ (all : IsReduced nodes) where
      distinct : (r s : ℕ) (m : Branch) → node_at new r ≡ Some m → node_at new s ≡ Some m → r ≡ s
      distinct r s m e f =
          let a = old_node r m e in
          let b = old_node s m f in
          let same : with_variable names a.0 ≡ with_variable names b.0 = a.2 ∙ sym b.2 in
          let is : a.0 ≡ b.0 = from_parts a.0 b.0 (one_name r s a.0 b.0 a.1 b.1 (ap (λ k. k.var) same)) (ap (λ k. k.low) same) (ap (λ k. k.high) same) in
          all.distinct r s a.0 a.1 (b.1 ∙ ap Some (sym is))

      reduced_named : IsReduced new
      reduced_named = record {
        earlier = by_old (λ r k. (k.low < r) × (k.high < r)) all.earlier;
        rises = by_old (λ r k. IsAbove new k.var k.low × IsAbove new k.var k.high)
            (λ r n e. let up = all.rises r n e in (above_named n.var n.low up.0, above_named n.var n.high up.1));
        differs = by_old (λ r k. k.low ≡ k.high → ⊥) all.differs;
        distinct = distinct;
      }

      value_named : (bits : ℕ → Bool) (d r : ℕ) → r ≤ d → value_at new r bits ≡ value_at nodes r (λ v. bits (slice_index names v))
      value_named bits zero r h =
          value_at_end new r bits (no_node new r (omega arith)) ∙ sym (value_at_end nodes r (λ v. bits (slice_index names v)) (no_node nodes r (omega arith)))
      value_named bits (suc d) r h = elim (option_cases (node_at nodes r)) [
        | inl none ↦ value_at_end new r bits (named_none r none) ∙ sym (value_at_end nodes r (λ v. bits (slice_index names v)) none)
        | inr n ↦
            let other : ℕ → Bool = λ v. bits (slice_index names v) in
            let before = all.earlier r n.0 n.1 in
            value_at_node new reduced_named r (with_variable names n.0) bits (named_node r n.0 n.1)
            ∙ same_cond (bits (slice_index names n.0.var)) (value_at new n.0.high bits) (value_at new n.0.low bits) (value_at nodes n.0.high other) (value_at nodes n.0.low other)
            (value_named bits d n.0.high (omega (arith, before.1))) (value_named bits d n.0.low (omega (arith, before.0)))
            ∙ sym (value_at_node nodes all r n.0 other n.1)
      ]

-- as the code makes the nodes
pub named_canonical : (names : List ℕ) (view nodes list : List Branch) (root : ℕ) → view ≡ nodes → IsCanonical root nodes → HasVariablesBelow (length names) nodes → Rises names → list ≡ map (with_variable names) view
    → IsCanonical root list
named_canonical names view nodes list root e c covers rises is =
    let P : List Branch → Type 0 = λ l. IsCanonical root l in
    subst P (sym (is ∙ ap (map (with_variable names)) e))
    (record {
      reduced = reduced_named names nodes covers rises c.reduced;
      post_order = ∥∥₁_map c.post_order (walk_named names nodes [] root nodes);
    })

pub named_value : (names : List ℕ) (view nodes list : List Branch) (root : ℕ) → view ≡ nodes → IsCanonical root nodes → HasVariablesBelow (length names) nodes → Rises names → list ≡ map (with_variable names) view
    → (bits : ℕ → Bool) → value_at list root bits ≡ value_at nodes root (λ v. bits (slice_index names v))
named_value names view nodes list root e c covers rises is bits =
    ap (λ l. value_at l root bits) (is ∙ ap (map (with_variable names)) e) ∙ value_named names nodes covers rises c.reduced bits root root (omega arith)

-- each variable is one of the names
pub named_below : (names : List ℕ) (view nodes list : List Branch) → view ≡ nodes → HasVariablesBelow (length names) nodes → list ≡ map (with_variable names) view
    → (limit : ℕ) → AreBelow limit names → HasVariablesBelow limit list
named_below names view nodes list e covers is limit below =
    let P : List Branch → Type 0 = λ l. HasVariablesBelow limit l in
    subst P (sym (is ∙ ap (map (with_variable names)) e)) (by_old names nodes (λ r k. k.var < limit) (λ r n at. below n.var (covers r n at)))
