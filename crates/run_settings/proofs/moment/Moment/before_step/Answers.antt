use Rattle.std.proofs.Common.{refl, ap, ◌∙◌}
use Rattle.run_settings.specs.private.Moments.{Moment, newest_of}
use Rattle.run_settings.proofs.JoinLemmas.{cut_here}
use Rattle.run_settings.proofs.moment.Moment.before_step.Goals as goal

pub pick_middle-requires-clause-there : goal.pick_middle-requires-clause-there
pick_middle-requires-clause-there c =
    let at = c.args.self.now in
    cut_here c.args.n c.args.value.now c.args.value.now c.args.weight.now
    (newest_of at.start at.saved) c.newest.result.now at.present c.as_slice.result.now
    refl c.newest.ensures (c.as_slice.ensures ∙ ap (λ (m : Moment). m.present) c.self.view_is)
    c.requires.value c.requires.weight c.requires.joins
