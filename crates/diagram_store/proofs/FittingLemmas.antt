-- A list is reduced where each of its nodes fits those before it.
use Rattle.std.proofs.Common.{◌≡◌, ℕ, zero, suc, ◌<◌, List, inl, inr, arith}
use Rattle.std.specs.Prelude.{Some, slice_get}
use Rattle.std.proofs.lemmas.Bool.{cases_lt}
use Rattle.diagram_store.specs.declared.branch.Branch.{Branch}
use Rattle.diagram_store.specs.Nodes.{node_at, IsAbove, IsReduced}
use Rattle.diagram_store.specs.private.Fitting.{IsFitting}

abbrev pub AllFit : List Branch → Type 0
AllFit nodes = (k : ℕ) (n : Branch) → slice_get nodes k ≡ Some n → IsFitting nodes k n

module _ (nodes : List Branch) (all : AllFit nodes) where
  earlier : (r : ℕ) (n : Branch) → node_at nodes r ≡ Some n → (n.low < r) × (n.high < r)
  earlier zero n e = cc
  earlier (suc zero) n e = cc
  earlier (suc (suc k)) n e = let f = all k n e in (omega (arith, f.low_earlier), omega (arith, f.high_earlier))

  rises : (r : ℕ) (n : Branch) → node_at nodes r ≡ Some n → IsAbove nodes n.var n.low × IsAbove nodes n.var n.high
  rises zero n e = cc
  rises (suc zero) n e = cc
  rises (suc (suc k)) n e = let f = all k n e in (f.low_above, f.high_above)

  differs : (r : ℕ) (n : Branch) → node_at nodes r ≡ Some n → n.low ≡ n.high → ⊥
  differs zero n e same = cc
  differs (suc zero) n e same = cc
  differs (suc (suc k)) n e same = (all k n e).differs same

  distinct : (r s : ℕ) (n : Branch) → node_at nodes r ≡ Some n → node_at nodes s ≡ Some n → r ≡ s
  distinct zero s n e f = cc
  distinct (suc zero) s n e f = cc
  distinct (suc (suc j)) zero n e f = cc
  distinct (suc (suc j)) (suc zero) n e f = cc
  distinct (suc (suc j)) (suc (suc k)) n e f = elim (cases_lt j k) [
    | inl less ↦ absurd ((all k n f).fresh j less e)
    | inr more ↦ elim (cases_lt k j) [
      | inl less ↦ absurd ((all j n e).fresh k less f)
      | inr more' ↦ omega arith
    ]
  ]

  pub reduced_from_fitting : IsReduced nodes
  reduced_from_fitting = record { earlier = earlier; rises = rises; differs = differs; distinct = distinct }

pub fitting_from_reduced : (nodes : List Branch) → IsReduced nodes → AllFit nodes
fitting_from_reduced nodes all k n e =
    let before = all.earlier (suc (suc k)) n e in
    let up = all.rises (suc (suc k)) n e in
    record {
      low_earlier = omega (arith, before.0);
      high_earlier = omega (arith, before.1);
      differs = all.differs (suc (suc k)) n e;
      low_above = up.0;
      high_above = up.1;
      fresh = λ j less f. let same = all.distinct (suc (suc j)) (suc (suc k)) n f e in absurd (omega (arith, same));
    }
