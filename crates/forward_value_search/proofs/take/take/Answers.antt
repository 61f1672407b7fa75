use Rattle.std.proofs.Common.{◌∙◌, sym, subst}
use Rattle.weighted_automata.specs.declared.place.Place.{Place}
use Rattle.forward_value_search.specs.Search.{HasGivenAll}
use Rattle.forward_value_search.proofs.WalkLemmas.{some_at}
use Rattle.forward_value_search.proofs.take.take.Goals as goal

pub place-place-requires : goal.place-place-requires
place-place-requires g c = c.requires.entry

pub fire_all-requires-clause-entry : goal.fire_all-requires-clause-entry
fire_all-requires-clause-entry g c =
    let e = some_at c.args.tables.now.base c.args.t c.requires.entry in (e.0, e.1, sym (c.place-place.ensures e.0 e.1))

pub read_item-requires-clause-entry : goal.read_item-requires-clause-entry
read_item-requires-clause-entry g c =
    let e = some_at c.args.tables.now.base c.args.t c.requires.entry in (e.0, e.1, sym (c.place-place.ensures e.0 e.1))

pub end_callee-requires-clause-entry : goal.end_callee-requires-clause-entry
end_callee-requires-clause-entry g c =
    let e = some_at c.args.tables.now.base c.args.t c.requires.entry in (e.0, e.1, sym (c.place-place.ensures e.0 e.1))

pub returns-in_ok-fire_all-in-Symbol-clause-gives : goal.returns-in_ok-fire_all-in-Symbol-clause-gives
returns-in_ok-fire_all-in-Symbol-clause-gives g c = λ x there.
    let P : Place → Type 0 = HasGivenAll g.S.Semiring.operations c.args.system.now c.args.first.now c.fire_all.new.tables in
    subst P (c.place-place.ensures there.0 there.1 ∙ there.2) c.in_ok-fire_all-in-Symbol.ensures.gives

pub returns-in_ok-read_item-in-Empty-clause-gives : goal.returns-in_ok-read_item-in-Empty-clause-gives
returns-in_ok-read_item-in-Empty-clause-gives g c = λ x there.
    let P : Place → Type 0 = HasGivenAll g.S.Semiring.operations c.args.system.now c.args.first.now c.read_item.new.tables in
    subst P (c.place-place.ensures there.0 there.1 ∙ there.2) c.in_ok-read_item-in-Empty.ensures.gives

pub returns-in_ok-end_callee-in-Empty-clause-gives : goal.returns-in_ok-end_callee-in-Empty-clause-gives
returns-in_ok-end_callee-in-Empty-clause-gives g c = λ x there.
    let P : Place → Type 0 = HasGivenAll g.S.Semiring.operations c.args.system.now c.args.first.now c.end_callee.new.tables in
    subst P (c.place-place.ensures there.0 there.1 ∙ there.2) c.in_ok-end_callee-in-Empty.ensures.gives
