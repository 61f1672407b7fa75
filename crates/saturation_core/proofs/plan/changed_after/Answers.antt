use Rattle.saturation_core.specs.private.Plans.{put_from}
use Rattle.saturation_core.proofs.ChangeLemmas.{present_at}
use Rattle.saturation_core.proofs.GoalLemmas.{planned_at}
use Rattle.saturation_core.proofs.plan.changed_after.Goals as goal

pub weight_after-requires-clause-old : goal.weight_after-requires-clause-old
weight_after-requires-clause-old g c =
    let x = c.args.worked.now.job.now.goal in
    let ts = c.args.transitions.now.transitions in
    let there = planned_at x c.args.plan.now c.last_at.result c.last_at.ensures.found c.in-Some.k c.step.result.now c.in-Some.is c.step.ensures c.args.nodes ts in
    (c.requires.then.each _ (present_at (g.S.Semiring.laws c.args.semiring.now) x (put_from c.args.nodes c.args.plan.now ts) _ there)).0
