use Rattle.std.proofs.Common.{ap, sym}
use Rattle.std.specs.Prelude.{None}
use Rattle.weighted_automata.specs.declared.place.Place.{Place}
use Rattle.value_search.proofs.OnwardLemmas.{onward_itself}
use Rattle.value_search.proofs.CalleeLemmas.{second_below, second_sums, second_waits}
use Rattle.value_search.proofs.meet.meet_second.Goals as goal

pub give_then-requires-clause-sums : goal.give_then-requires-clause-sums
give_then-requires-clause-sums g c = λ r there e is.
    let p = c.args.system.now in
    let s = g.S.Semiring.operations p.semiring in
    let law = g.S.Semiring.laws p.semiring in
    let valid = c.semiring-semiring.ensures.valid in
    let old = c.args.tables.now in
    let at = c.args.at in
    let k = c.args.k in
    second_sums valid law k r there at.from at.symbol c.args.below at.to (c.requires.right r there) (c.requires.from r there) old c.requires.search c.args.second e is (c.requires.row e is) c.requires.hand c.place-to.result.to (ap (λ (x : Place). x.to) (c.place-to.ensures e is))

pub returns-clause-given : goal.returns-clause-given
returns-clause-given g c = λ r there e is.
    let p = c.args.system.now in
    let s = g.S.Semiring.operations p.semiring in
    let law = g.S.Semiring.laws p.semiring in
    let valid = c.semiring-semiring.ensures.valid in
    let old = c.args.tables.now in
    let at = c.args.at in
    let k = c.args.k in
    second_below valid law k r there at.from at.symbol c.args.below at.to (c.requires.right r there) (c.requires.from r there) old c.requires.search c.args.second e is (c.requires.row e is) c.requires.hand c.place-to.result.to (ap (λ (x : Place). x.to) (c.place-to.ensures e is)) c.give_then.new.tables c.in_ok-give_then.ensures.onward (c.in_ok-give_then.ensures.given r there e is)

pub returns-then-waits-clause-onward : goal.returns-then-waits-clause-onward
returns-then-waits-clause-onward g c =
    let p = c.args.system.now in
    let s = g.S.Semiring.operations p.semiring in
    let law = g.S.Semiring.laws p.semiring in
    let valid = c.semiring-semiring.ensures.valid in
    let old = c.args.tables.now in
    let at = c.args.at in
    let k = c.args.k in
    onward_itself valid law None old c.requires.search

pub returns-then-waits-clause-given : goal.returns-then-waits-clause-given
returns-then-waits-clause-given g c = λ r there e is.
    let p = c.args.system.now in
    let s = g.S.Semiring.operations p.semiring in
    let law = g.S.Semiring.laws p.semiring in
    let valid = c.semiring-semiring.ensures.valid in
    let old = c.args.tables.now in
    let at = c.args.at in
    let k = c.args.k in
    second_waits valid law k r there at.from at.symbol c.args.below at.to (c.requires.right r there) (c.requires.from r there) old c.requires.search c.args.second e is (c.requires.row e is) (sym (c.if-waits.ensures e is))
