use Rattle.std.proofs.Common.{◌≡◌, ◌++◌, map, sym, ap, ◌∙◌, subst}
use Rattle.std.specs.Prelude.{OnOk, Some}
use Rattle.std.proofs.lemmas.Option.{slice_get_within}
use Rattle.weighted_automata.specs.Entries.{index_at, entry_at}
use Rattle.saturation_laws.specs.States.{change_of, jobs_at}
use Rattle.saturation_laws.proofs.CallerLemmas.{indexed}
use Rattle.saturation_core.proofs.work.list_changes.Goals as goal

pub changes-requires-clause-taken : goal.changes-requires-clause-taken
changes-requires-clause-taken g c =
    let us = c.list.result.now.transitions in
    let at : index_at c.args.taken.place us ≡ Some c.from.result = ap (index_at c.args.taken.place) c.list.ensures ∙ c.requires.at ∙ ap Some (sym c.from.ensures) in
    let there = indexed c.args.taken.place us c.from.result at in
    slice_get_within us c.from.result there.0 there.1

pub returns : goal.returns
returns g c =
    let s = g.S.Semiring.operations c.args.system.now.semiring in
    let d = g.D.Direction.way.tables c.args.direction.now c.args.system.now in
    let us = c.list.result.now.transitions in
    let at : index_at c.args.taken.place us ≡ Some c.from.result = ap (index_at c.args.taken.place) c.list.ensures ∙ c.requires.at ∙ ap Some (sym c.from.ensures) in
    let there = indexed c.args.taken.place us c.from.result at in
    subst (λ ts. OnOk c.changes.result (c.changes.new.into.items ≡ c.args.into.now.items ++ map (change_of s d) (jobs_at s d (entry_at c.args.taken.place ts) ts))) c.list.ensures
    (subst (λ o. OnOk c.changes.result (c.changes.new.into.items ≡ c.args.into.now.items ++ map (change_of s d) (jobs_at s d o us))) (sym there.2) (c.changes.ensures there.0 there.1))
