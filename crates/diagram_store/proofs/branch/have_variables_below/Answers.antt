use Rattle.std.proofs.Common.{ℕ, suc, ◌<◌, length, get_or, refl, subst, arith, below_more}
use Rattle.std.proofs.lemmas.Option.{slice_get_within, slice_get-get_or, get_or_from_slice_get}
use Rattle.diagram_store.specs.declared.branch.Branch.{Branch}
use Rattle.diagram_store.proofs.NodeLemmas.{variables_from_each}
use Rattle.diagram_store.proofs.branch.have_variables_below.Goals as goal

pub returns : goal.returns
returns c = (
  λ yes. variables_from_each c.args.limit c.args.nodes.now
      (λ k n e. c.loop-branch.invariant k (let w : k < length c.args.nodes.now = slice_get_within c.args.nodes.now k n e in omega arith) n e),
  λ below. refl,
)

pub returns-then-from-limit : goal.returns-then-from-limit
returns-then-from-limit c = (
  λ yes. cc,
  λ below.
      let k : ℕ = c.loop-branch.branch-index in
      let at = slice_get-get_or c.args.nodes.now k (record { var = 0; low = 0; high = 0 }) c.loop-branch-test.true in
      let b = below (suc (suc k)) (get_or c.args.nodes.now k (record { var = 0; low = 0; high = 0 })) at in
      absurd (omega (arith, b, c.from.ensures, c.if-from-limit.true)),
)

pub loop-branch-preserved : goal.loop-branch-preserved
loop-branch-preserved c = below_more _ _ c.loop-branch.invariant
    (λ n e.
    let is = get_or_from_slice_get c.args.nodes.now c.loop-branch.branch-index n (record { var = 0; low = 0; high = 0 }) e in
    let P : Branch → Type 0 = λ m. m.var < c.args.limit in
    subst P is (let f = c.from.ensures in omega arith))
