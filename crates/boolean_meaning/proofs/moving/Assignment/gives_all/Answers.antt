use Rattle.std.proofs.Common.{◌<◌, refl, arith}
use Rattle.boolean_meaning.specs.private.GivenValues.{values_of}
use Rattle.boolean_meaning.proofs.TurnLemmas.{got_more}
use Rattle.boolean_meaning.proofs.moving.Assignment.gives_all.Goals as goal

pub loop-name-preserved : goal.loop-name-preserved
loop-name-preserved c =
    let at = c.loop-name in
    let s = c.args.self.now in
    let more : 0 < at.name = omega arith in
    record {
      within = omega arith;
      rest = got_more s.targets.now (values_of s.values) s.old.now c.args.kept.now c.args.new.now at.name c.gives.result _ _ more c.gives.ensures refl refl c.if-not-gives.false at.invariant.rest;
    }
