use Rattle.std.specs.Prelude.{option_map}
use Rattle.weight_tables.specs.Entries.{lowered_in}
use Rattle.weight_tables.specs.Tables.{entries_of, with_entries}
use Rattle.value_search.specs.Views.{found}
use Rattle.value_search.proofs.GrowLemmas.{stands}
use Rattle.value_search.proofs.HandLemmas.{given_there, given_lies, then_made, hand_of, within_layer}
use Rattle.value_search.proofs.give.give_then.Goals as goal

pub returns-clause-onward : goal.returns-clause-onward
returns-clause-onward g c =
    let p = c.args.system.now in
    let law = g.S.Semiring.laws p.semiring in
    let valid = c.semiring-semiring.ensures.valid in
    let target = option_map (λ t. t.now) c.args.target in
    let old = c.args.tables.now in
    let entry = stands (found target old) c.args.t c.requires.entry in
    let e = entry.0 in
    let is = entry.1 in
    let at = stands p.rules c.args.k c.requires.rule in
    let r = at.0 in
    let there = at.1 in
    given_there valid law target old c.lower_then.new.self c.requires.search c.layer-list.result c.layer-list.ensures c.goal-place.result r.control r.symbol c.args.to (c.goal-place.ensures r there) old.hand ((g.S.Semiring.operations p.semiring).extend old.hand e.weight) (c.requires.sums r there e is) (then_made valid law target c.layer-list.result c.layer-list.ensures old c.lower_then.new.self c.requires.search.same c.goal-place.result c.args.t c.in_ok-lower_then.ensures.ok e is) c.valid.ensures.tables

pub returns-clause-given : goal.returns-clause-given
returns-clause-given g c = λ r there e is.
    let p = c.args.system.now in
    let law = g.S.Semiring.laws p.semiring in
    let valid = c.semiring-semiring.ensures.valid in
    let target = option_map (λ t. t.now) c.args.target in
    let old = c.args.tables.now in
    given_lies valid law target old c.lower_then.new.self c.requires.search c.layer-list.result c.layer-list.ensures c.goal-place.result r.control r.symbol c.args.to (c.goal-place.ensures r there) old.hand ((g.S.Semiring.operations p.semiring).extend old.hand e.weight) (c.requires.sums r there e is) (then_made valid law target c.layer-list.result c.layer-list.ensures old c.lower_then.new.self c.requires.search.same c.goal-place.result c.args.t c.in_ok-lower_then.ensures.ok e is)

pub lower_then-requires : goal.lower_then-requires
lower_then-requires g c = within_layer (option_map (λ t. t.now) c.args.target) c.layer-list.result c.layer-list.ensures c.args.tables.now c.args.t c.requires.entry

pub returns-clause-hand : goal.returns-clause-hand
returns-clause-hand g c =
    let p = c.args.system.now in
    let law = g.S.Semiring.laws p.semiring in
    let valid = c.semiring-semiring.ensures.valid in
    let target = option_map (λ t. t.now) c.args.target in
    let old = c.args.tables.now in
    let entry = stands (found target old) c.args.t c.requires.entry in
    let e = entry.0 in
    let is = entry.1 in
    let s = g.S.Semiring.operations p.semiring in
    hand_of old.hand old c.lower_then.new.self (with_entries c.layer-list.result (lowered_in (g.S.Semiring.operations old.system.semiring) c.goal-place.result (s.extend old.hand e.weight) (entries_of c.layer-list.result old)) old) (then_made valid law target c.layer-list.result c.layer-list.ensures old c.lower_then.new.self c.requires.search.same c.goal-place.result c.args.t c.in_ok-lower_then.ensures.ok e is)
