use Rattle.std.proofs.Common.{sym, ◌∙◌}
use Rattle.std.proofs.lemmas.Option.{slice_get_within}
use Rattle.saturation_laws.proofs.CallerLemmas.{indexed}
use Rattle.saturation_core.proofs.ChangeLemmas.{read_entry, present_at}
use Rattle.saturation_core.proofs.change.weight_now.Goals as goal

pub entry-requires : goal.entry-requires
entry-requires g c =
    let there = indexed c.args.place c.args.transitions.now.transitions c.in-Some.k (sym c.find.ensures.index ∙ c.in-Some.is) in
    slice_get_within c.args.transitions.now.transitions c.in-Some.k there.0 there.1

pub copy-requires : goal.copy-requires
copy-requires g c =
    let law = g.S.Semiring.laws c.args.semiring.now in
    let there = read_entry law c.args.place c.args.transitions.now.transitions c.in-Some.k c.find.result c.entry.result.now c.find.ensures.entry c.in-Some.is c.entry.ensures.entry in
    (c.requires.1.each c.entry.result.now (present_at law c.args.place c.args.transitions.now.transitions c.entry.result.now there)).0
