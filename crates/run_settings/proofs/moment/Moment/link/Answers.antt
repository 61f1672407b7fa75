use Rattle.std.proofs.Common.{ap, ◌∙◌}
use Rattle.pushdown_rules.specs.RunValue.{Frame}
use Rattle.relation_laws.specs.Building.{Parts}
use Rattle.relation_weights.specs.declared.rel_map.RelMap.{RelMap}
use Rattle.run_settings.specs.private.Moments.{Moment, newest_of}
use Rattle.run_settings.proofs.JoinLemmas.{cut_here}
use Rattle.run_settings.proofs.moment.Moment.link.Goals as goal

pub pick_middle-requires-clause-there : goal.pick_middle-requires-clause-there
pick_middle-requires-clause-there c =
    let at = c.args.self.now in
    cut_here c.args.n c.args.call.now.saved c.call.inside.saved c.args.value.now
    (newest_of at.start at.saved) c.newest.result.now at.present c.as_slice.result.now
    (ap (λ (f : Frame Parts RelMap). f.saved) c.call.view_is) c.newest.ensures (c.as_slice.ensures ∙ ap (λ (m : Moment). m.present) c.self.view_is)
    c.requires.saved c.requires.value c.requires.joins
