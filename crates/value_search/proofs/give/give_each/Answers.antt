use Rattle.std.specs.Prelude.{option_map}
use Rattle.std.proofs.Common.{◌∙◌}
use Rattle.weight_tables.specs.Entries.{lowered_in}
use Rattle.weight_tables.specs.Tables.{entries_of, with_entries}
use Rattle.value_search.proofs.GrowLemmas.{stands}
use Rattle.value_search.proofs.HandLemmas.{given_there, given_lies, hand_kept, hand_of}
use Rattle.value_search.proofs.give.give_each.Goals as goal

pub returns-clause-onward : goal.returns-clause-onward
returns-clause-onward g c =
    let p = c.args.system.now in
    let law = g.S.Semiring.laws p.semiring in
    let valid = c.semiring-semiring.ensures.valid in
    let target = option_map (λ t. t.now) c.args.target in
    let old = c.args.tables.now in
    let at = stands p.rules c.args.k c.requires.rule in
    let r = at.0 in
    let there = at.1 in
    given_there valid law target old c.lower.new.self c.requires.search c.layer-list.result c.layer-list.ensures c.goal-place.result r.control r.symbol c.args.to (c.goal-place.ensures r there) old.hand old.hand (c.requires.sums r there) (c.in_ok-lower.ensures.ok ∙ hand_kept c.layer-list.result (lowered_in (g.S.Semiring.operations old.system.semiring) c.goal-place.result old.hand (entries_of c.layer-list.result old)) old) c.valid.ensures.tables

pub returns-clause-given : goal.returns-clause-given
returns-clause-given g c = λ r there.
    let p = c.args.system.now in
    let law = g.S.Semiring.laws p.semiring in
    let valid = c.semiring-semiring.ensures.valid in
    let target = option_map (λ t. t.now) c.args.target in
    let old = c.args.tables.now in
    given_lies valid law target old c.lower.new.self c.requires.search c.layer-list.result c.layer-list.ensures c.goal-place.result r.control r.symbol c.args.to (c.goal-place.ensures r there) old.hand old.hand (c.requires.sums r there) (c.in_ok-lower.ensures.ok ∙ hand_kept c.layer-list.result (lowered_in (g.S.Semiring.operations old.system.semiring) c.goal-place.result old.hand (entries_of c.layer-list.result old)) old)

pub returns-clause-hand : goal.returns-clause-hand
returns-clause-hand g c =
    let old = c.args.tables.now in
    hand_of old.hand old c.lower.new.self (with_entries c.layer-list.result (lowered_in (g.S.Semiring.operations old.system.semiring) c.goal-place.result old.hand (entries_of c.layer-list.result old)) old) (c.in_ok-lower.ensures.ok ∙ hand_kept c.layer-list.result (lowered_in (g.S.Semiring.operations old.system.semiring) c.goal-place.result old.hand (entries_of c.layer-list.result old)) old)
