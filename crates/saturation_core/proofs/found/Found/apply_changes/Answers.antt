use Rattle.std.proofs.Common.{◌∙◌, length, sym, subst, arith}
use Rattle.saturation_core.specs.private.Steps.{IsFitChange}
use Rattle.saturation_core.proofs.TurnBook.{change_more, fit_more}
use Rattle.saturation_core.proofs.found.Found.apply_changes.Goals as goal

pub apply_listed-requires-clause-fit : goal.apply_listed-requires-clause-fit
apply_listed-requires-clause-fit g c =
    let s = g.S.Semiring.operations c.args.semiring.now in
    let m = length c.args.self.now.graph.nodes in
    let fit = c.requires.fit c.loop-change.change-index c.change-item.result c.loop-change-test.true in
    fit_more s m (length c.loop-change.self.graph.nodes) c.change-item.result c.loop-change.invariant.2
    (subst (IsFitChange s m) (sym c.change-item.is) fit)

pub loop-change-preserved : goal.loop-change-preserved
loop-change-preserved g c =
    let s = g.S.Semiring.operations c.args.semiring.now in (
      λ hands. change_more s c.args.changes.now c.loop-change.change-index c.change-item.result _ _ _ c.loop-change-test.true c.change-item.is (c.loop-change.invariant.0 hands) (c.in_ok-apply_listed.ensures.state hands),
      c.in_ok-apply_listed.ensures.kept,
      omega (arith, c.loop-change.invariant.2, c.in_ok-apply_listed.ensures.nodes),
      c.apply_listed.ensures.side ∙ c.loop-change.invariant.3,
    )
