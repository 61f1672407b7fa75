use Rattle.std.proofs.Common.{◌<◌, length, sym, subst, arith}
use Rattle.std.proofs.lemmas.Option.{slice_get_within, get_or_from_slice_get}
use Rattle.semiring_laws.specs.Semiring.{Fits}
use Rattle.saturation_laws.specs.Openings.{AreKept}
use Rattle.saturation_core.specs.Goals.{StillTells}
use Rattle.saturation_core.specs.private.Plans.{change_with, changes_with}
use Rattle.saturation_core.proofs.PutPlan.{plan_begins, plan_more, plan_keeps}
use Rattle.saturation_core.proofs.plan.plan_jobs.Goals as goal

pub loop-k-init : goal.loop-k-init
loop-k-init g c =
    plan_begins (g.S.Semiring.operations c.args.semiring.now) (changes_with c.args.done.now.jobs c.args.done.now.candidates) (length c.args.found.now.graph.nodes) c.len-nodes.result
    c.list-transitions.result.now.transitions c.new-plan.result c.new-plan.ensures c.len-nodes.ensures.len
    (subst (λ ts. AreKept (g.S.Semiring.operations c.args.semiring.now) ts (length c.args.found.now.graph.nodes)) (sym c.list-transitions.ensures) c.requires.kept)

pub lowering-requires-clause-tells : goal.lowering-requires-clause-tells
lowering-requires-clause-tells g c =
    let w = c.worked-worked.result in
    subst (λ ts. StillTells ts w.job.now.goal w.seen.now) (sym c.list-transitions.ensures)
    (c.requires.tell.each c.loop-k.k w.job.now w.seen.now c.worked-worked.ensures.job c.worked-worked.ensures.goal)

pub loop-k-preserved : goal.loop-k-preserved
loop-k-preserved g c =
    let s = g.S.Semiring.operations c.args.semiring.now in
    let js = c.args.done.now.jobs in
    let ws = c.args.done.now.candidates in
    let k = c.loop-k.k in
    let w = c.worked-worked.result in
    let within : k < length js = slice_get_within js k w.job.now c.worked-worked.ensures.job in
    let read = sym (get_or_from_slice_get js k w.job.now w.job.now c.worked-worked.ensures.job) in
    let read' = sym (get_or_from_slice_get ws k w.worth.now w.worth.now c.worked-worked.ensures.worth) in
    let fit = subst (Fits s) (sym read') (c.requires.worths k w.worth.now (omega (arith, within, c.requires.len))) in (
      plan_more s js ws k within c.requires.len c.len-nodes.result c.list-transitions.result.now.transitions
          c.loop-k.plan _ c.loop-k.invariant.0 w.job.now w.worth.now c.in_ok-step.step c.add.new.self
          read read' c.in_ok-step.ensures c.in_ok-add.ensures,
      plan_keeps (g.S.Semiring.laws c.args.semiring.now) (change_with w.job.now w.worth.now) c.len-nodes.result c.list-transitions.result.now.transitions
          c.loop-k.plan c.add.new.self c.in_ok-step.step c.loop-k.invariant.1 fit c.in_ok-step.ensures c.in_ok-add.ensures,
    )
