-- Quantification by the disjunction of the branches.
use Rattle.std.proofs.Common.{◌≡◌, ℕ, ◌<◌, ◌≤◌, Bool, true, false, ◌||◌, List, length, refl, sym, ap, ◌∙◌, inl, inr, arith}
use Rattle.std.specs.Prelude.{Option, Some, cond, slice_index_or}
use Rattle.std.proofs.lemmas.Bool.{cond-true, cond-false, cases_Bool, or_left, or_right, or_cases}
use Rattle.truth_tables.specs.Tables.{value3_of}
use Rattle.diagram_store.specs.declared.branch.Branch.{Branch}
use Rattle.diagram_store.specs.Nodes.{node_at, IsAbove, IsReduced}
use Rattle.diagram_store.specs.Meaning.{value_at, set_bit}
use Rattle.diagram_store.proofs.CallerLemmas.{value_at_end, value_at_node, set_other, low_value, high_value}
use Rattle.diagram_ops.specs.private.Scratch.{Stands}
use Rattle.diagram_ops.specs.private.Applying.{Applies}
use Rattle.diagram_ops.specs.Quantifying.{is_listed, AgreeOutside}
use Rattle.diagram_ops.specs.private.Images.{IsImage, IsQuantified}
use Rattle.diagram_ops.proofs.KeepingLemmas.{keeps_above}
use Rattle.diagram_ops.proofs.ApplyingLemmas.{value3_same}
use Rattle.diagram_ops.proofs.ImageLemmas.{made_means, low_within, high_within, low_above, high_above}

-- the constants
pub never_quantified : (nodes : List Branch) (vars : List ℕ) (bits : ℕ → Bool) → IsQuantified nodes vars 0 bits false
never_quantified nodes vars bits = (λ e. cc, λ h. let f : true ≡ false = sym h.2 ∙ value_at_end nodes 0 h.0 refl in cc)

pub always_quantified : (nodes : List Branch) (vars : List ℕ) (bits : ℕ → Bool) → IsQuantified nodes vars 1 bits true
always_quantified nodes vars bits = (λ e. (bits, λ k off. refl, value_at_end nodes 1 bits refl), λ h. refl)

pub or_table : (a b : Bool) → value3_of 252 a b false ≡ (a || b)
or_table true true = refl
or_table true false = refl
or_table false true = refl
or_table false false = refl

module _ (nodes : List Branch) (whole : IsReduced nodes) (vars : List ℕ) (r : ℕ) (n : Branch) (at : node_at nodes r ≡ Some n) where
  high_taken : (bits : ℕ → Bool) → bits n.var ≡ true → value_at nodes r bits ≡ value_at nodes n.high bits
  high_taken bits e = value_at_node nodes whole r n bits at ∙ cond-true (bits n.var) (value_at nodes n.high bits) (value_at nodes n.low bits) e

  low_taken : (bits : ℕ → Bool) → bits n.var ≡ false → value_at nodes r bits ≡ value_at nodes n.low bits
  low_taken bits e = value_at_node nodes whole r n bits at ∙ cond-false (bits n.var) (value_at nodes n.high bits) (value_at nodes n.low bits) e

  -- a variable that is quantified
  module _ (listed : is_listed vars n.var ≡ true) where
    off_still : (bits other : ℕ → Bool) (b : Bool) → AgreeOutside vars bits other → AgreeOutside vars bits (set_bit other n.var b)
    off_still bits other b off k not =
        set_other other n.var b k (λ e. let f : true ≡ false = sym listed ∙ ap (is_listed vars) (sym e) ∙ not in cc) ∙ off k not

    pub joined_means : (bits : ℕ → Bool) (b l h : Bool) → b ≡ (l || h) → IsQuantified nodes vars n.low bits l → IsQuantified nodes vars n.high bits h → IsQuantified nodes vars r bits b
    joined_means bits b l h is ml mh = (
      λ yes. elim (or_cases l h (sym is ∙ yes)) [
        | inl e ↦ let o = ml.0 e in (set_bit o.0 n.var false, off_still bits o.0 false o.1, sym (low_value nodes whole r n at o.0) ∙ o.2)
        | inr e ↦ let o = mh.0 e in (set_bit o.0 n.var true, off_still bits o.0 true o.1, sym (high_value nodes whole r n at o.0) ∙ o.2)
      ],
      λ o. is ∙ elim (cases_Bool (o.0 n.var)) [
        | inl e ↦ or_right l h (mh.1 (o.0, o.1, sym (high_taken o.0 e) ∙ o.2))
        | inr e ↦ or_left l h (ml.1 (o.0, o.1, sym (low_taken o.0 e) ∙ o.2))
      ],
    )

  -- a variable that stays
  pub chosen_means : is_listed vars n.var ≡ false → (bits : ℕ → Bool) (b l h : Bool) → IsQuantified nodes vars n.low bits l → IsQuantified nodes vars n.high bits h → b ≡ cond (bits n.var) h l
      → IsQuantified nodes vars r bits b
  chosen_means stays bits b l h ml mh is = elim (cases_Bool (bits n.var)) [
    | inl e ↦
        let same : b ≡ h = is ∙ cond-true (bits n.var) h l e in (
          λ yes. let o = mh.0 (sym same ∙ yes) in (o.0, o.1, high_taken o.0 (o.1 n.var stays ∙ e) ∙ o.2),
          λ o. same ∙ mh.1 (o.0, o.1, sym (high_taken o.0 (o.1 n.var stays ∙ e)) ∙ o.2),
        )
    | inr e ↦
        let same : b ≡ l = is ∙ cond-false (bits n.var) h l e in (
          λ yes. let o = ml.0 (sym same ∙ yes) in (o.0, o.1, low_taken o.0 (o.1 n.var stays ∙ e) ∙ o.2),
          λ o. same ∙ ml.1 (o.0, o.1, sym (low_taken o.0 (o.1 n.var stays ∙ e)) ∙ o.2),
        )
  ]

-- the disjunction of the branches stands for a node of a quantified variable
module _ (nodes : List Branch) (whole : IsReduced nodes) (r : ℕ) (n : Branch) (at : node_at nodes r ≡ Some n)
    (old : List Branch) (places : List ℕ) (room : r ≤ length places) (vars : List ℕ) (i : IsImage nodes (IsQuantified nodes vars) old places)
    (low high : ℕ) (low_is : low ≡ slice_index_or places n.low 0) (high_is : high ≡ slice_index_or places n.high 0) (listed : is_listed vars n.var ≡ true) where
  below : (u q : ℕ) → u < n.var → IsAbove old n.var q → IsAbove old u q
  below u q h above m e = let up : n.var < m.var = above m e in omega arith

  pub quantified_join : (new : List Branch) (results : ℕ → ℕ → ℕ → Option ℕ) (p : ℕ) → Applies 252 old new results low high 0 p → Stands new p (IsQuantified nodes vars r) (λ v. IsAbove nodes v r)
  quantified_join new results p a =
      let lw = low_within nodes whole r n at old places room (IsQuantified nodes vars) i low high low_is high_is in
      let hw = high_within nodes whole r n at old places room (IsQuantified nodes vars) i low high low_is high_is in
      let la = low_above nodes whole r n at old places room (IsQuantified nodes vars) i low high low_is high_is in
      let ha = high_above nodes whole r n at old places room (IsQuantified nodes vars) i low high low_is high_is in
      made_means nodes whole r n at old places room (IsQuantified nodes vars) i low high low_is high_is new a.reduced a.keeps p a.applied.stands.within
      (λ u h. a.applied.stands.above u (keeps_above old new a.keeps u low lw (below u low h la), keeps_above old new a.keeps u high hw (below u high h ha), λ m e. cc))
      (λ bits b l h eb el eh ml mh.
      joined_means nodes whole vars r n at listed bits b l h
      (eb ∙ a.applied.stands.means bits
      ∙ value3_same 252 (value_at new low bits) (value_at new high bits) (value_at new 0 bits) l h false (sym el) (sym eh) (value_at_end new 0 bits refl)
      ∙ or_table l h) ml mh)
