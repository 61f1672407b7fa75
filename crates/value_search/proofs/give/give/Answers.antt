use Rattle.std.specs.Prelude.{option_map}
use Rattle.value_search.proofs.GrowLemmas.{stands}
use Rattle.value_search.proofs.HandLemmas.{given_there, given_lies}
use Rattle.value_search.proofs.give.give.Goals as goal

pub returns-clause-onward : goal.returns-clause-onward
returns-clause-onward g c =
    let p = c.args.system.now in
    let law = g.S.Semiring.laws p.semiring in
    let valid = c.semiring-semiring.ensures.valid in
    let target = option_map (λ t. t.now) c.args.target in
    let old = c.args.tables.now in
    let at = stands p.rules c.args.k c.requires.rule in
    let r = at.0 in
    let there = at.1 in
    given_there valid law target old c.put.new.self c.requires.search c.layer-list.result c.layer-list.ensures c.goal-place.result r.control r.symbol c.args.to (c.goal-place.ensures r there) (g.S.Semiring.operations old.system.semiring).zero old.hand (c.requires.sums r there) c.in_ok-put.ensures.ok c.valid.ensures.tables

pub returns-clause-given : goal.returns-clause-given
returns-clause-given g c = λ r there.
    let p = c.args.system.now in
    let law = g.S.Semiring.laws p.semiring in
    let valid = c.semiring-semiring.ensures.valid in
    let target = option_map (λ t. t.now) c.args.target in
    let old = c.args.tables.now in
    given_lies valid law target old c.put.new.self c.requires.search c.layer-list.result c.layer-list.ensures c.goal-place.result r.control r.symbol c.args.to (c.goal-place.ensures r there) (g.S.Semiring.operations old.system.semiring).zero old.hand (c.requires.sums r there) c.in_ok-put.ensures.ok
