use Rattle.std.proofs.Common.{sym, ◌∙◌}
use Rattle.std.proofs.lemmas.Option.{slice_get_within}
use Rattle.saturation_laws.proofs.CallerLemmas.{indexed}
use Rattle.saturation_core.proofs.goals.seen_at.Goals as goal

pub entry-entry-requires : goal.entry-entry-requires
entry-entry-requires g c =
    let there = indexed c.args.place c.args.transitions.now.transitions c.in-Some.k (sym c.find.ensures.index ∙ c.in-Some.is) in
    slice_get_within c.args.transitions.now.transitions c.in-Some.k there.0 there.1
