use Rattle.saturation_core.proofs.SeenLemmas.{sums_more}
use Rattle.saturation_core.proofs.goals.sums.Goals as goal

pub loop-i-preserved : goal.loop-i-preserved
loop-i-preserved g c =
    sums_more (g.S.Semiring.operations c.args.semiring.now) c.args.goals.now c.args.worths.now c.loop-i.i c.loop-i-test.true c.requires.len c.index-goals-i.result c.index-worths-i.result c.in_ok-sum.field-0
    c.loop-i.made.items c.push.new.self.items c.loop-i.invariant c.index-goals-i.is c.index-worths-i.is c.in_ok-sum.ensures c.in_ok-push.ensures.items
