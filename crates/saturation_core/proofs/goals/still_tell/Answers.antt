use Rattle.std.proofs.Common.{◌≡◌, length, refl, sym, ◌∙◌, subst, true, false, arith}
use Rattle.std.specs.Prelude.{Some, slice_get}
use Rattle.std.proofs.lemmas.Option.{slice_get_read, slice_get_within}
use Rattle.saturation_laws.specs.declared.job.Job.{Job}
use Rattle.saturation_core.specs.Goals.{StillTells}
use Rattle.saturation_core.proofs.SeenLemmas.{tell_more}
use Rattle.saturation_core.proofs.goals.still_tell.Goals as goal

pub returns-then-not-still_tells : goal.returns-then-not-still_tells
returns-then-not-still_tells g c = (
  λ h. cc,
  λ all.
      let at_j : slice_get c.args.jobs.now c.loop-i.i ≡ Some c.index-jobs-i.result = slice_get_read c.args.jobs.now (length c.args.jobs.now) c.loop-i.i c.index-jobs-i.result refl c.loop-i-test.true c.index-jobs-i.is in
      let at_seen : slice_get c.args.goals.now c.loop-i.i ≡ Some c.index-goals-i.result =
      slice_get_read c.args.goals.now (length c.args.jobs.now) c.loop-i.i c.index-goals-i.result (sym all.long) c.loop-i-test.true c.index-goals-i.is in
      let holds : c.still_tells.result ≡ true = c.still_tells.ensures.1
      (subst (λ (x : Job _ _ _). StillTells c.args.transitions.now.transitions x.goal c.index-goals-i.result) c.index-jobs-i.is (all.each c.loop-i.i c.index-jobs-i.result c.index-goals-i.result at_j at_seen)) in
      let e : true ≡ false = sym holds ∙ c.if-not-still_tells.true in
      cc,
)

pub loop-i-preserved : goal.loop-i-preserved
loop-i-preserved g c =
    tell_more c.args.transitions.now.transitions c.args.jobs.now c.args.goals.now c.loop-i.i c.loop-i-test.true (omega (arith, c.if-goals-jobs.false)) c.index-jobs-i.result c.index-goals-i.result c.index-jobs-i.is c.index-goals-i.is
    (subst (λ (x : Job _ _ _). StillTells c.args.transitions.now.transitions x.goal c.index-goals-i.result) (sym c.index-jobs-i.is) (c.still_tells.ensures.0 c.if-not-still_tells.false)) c.loop-i.invariant

pub returns : goal.returns
returns g c = (
  λ h. record {
    long = omega (arith, c.if-goals-jobs.false);
    each = λ k j seen at at'. c.loop-i.invariant k j seen (omega (arith, slice_get_within c.args.jobs.now k j at, c.loop-i-test.false)) at at';
  },
  λ h. refl,
)
