use Rattle.std.proofs.Common.{refl}
use Rattle.saturation_laws.specs.Directions.{AgreeOn}
use Rattle.saturation_core.proofs.AllPush.{all_more, all_read}
use Rattle.saturation_core.proofs.same.agree.Goals as goal

pub loop-job-preserved : goal.loop-job-preserved
loop-job-preserved g c = all_more (AgreeOn c.args.one.now c.args.other.now) c.args.jobs.now c.loop-job.job-index c.loop-job.invariant c.job-item.result c.loop-job-test.true c.job-item.is (c.agrees.ensures.0 c.if-not-agrees.false)

pub returns : goal.returns
returns g c = (λ _. all_read (AgreeOn c.args.one.now c.args.other.now) c.args.jobs.now c.loop-job.job-index c.loop-job.invariant c.loop-job-test.false, λ _. refl)
