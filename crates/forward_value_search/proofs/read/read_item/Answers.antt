use Rattle.std.proofs.Common.{sym, subst}
use Rattle.std.proofs.lemmas.Option.{slice_get_within}
use Rattle.forward_value_search.specs.Search.{HasSums}
use Rattle.forward_value_search.proofs.ItemLemmas.{item_onward, item_sums, item_then, item_given}
use Rattle.forward_value_search.proofs.read.read_item.Goals as goal

pub hold-requires : goal.hold-requires
hold-requires g c = slice_get_within c.args.tables.now.base c.args.t c.requires.entry.0 c.requires.entry.1

pub read_again-requires-clause-ready : goal.read_again-requires-clause-ready
read_again-requires-clause-ready g c =
    (item_onward c.semiring-semiring.ensures.valid (g.S.Semiring.laws c.args.system.now.semiring) c.args.first.now c.args.tables.now c.hold.new.self c.requires.ready c.args.t c.args.row c.requires.entry c.in_ok-hold.ensures.ok).ready

pub read_again-requires-clause-hand : goal.read_again-requires-clause-hand
read_again-requires-clause-hand g c =
    item_sums c.semiring-semiring.ensures.valid (g.S.Semiring.laws c.args.system.now.semiring) c.args.first.now c.args.tables.now c.hold.new.self c.requires.ready c.args.t c.args.row c.requires.entry c.in_ok-hold.ensures.ok

pub read_on-requires-clause-ready : goal.read_on-requires-clause-ready
read_on-requires-clause-ready g c = c.in_ok-read_again.ensures.onward.ready

pub read_on-requires-clause-hand : goal.read_on-requires-clause-hand
read_on-requires-clause-hand g c =
    let sums = item_sums c.semiring-semiring.ensures.valid (g.S.Semiring.laws c.args.system.now.semiring) c.args.first.now c.args.tables.now c.hold.new.self c.requires.ready c.args.t c.args.row c.requires.entry c.in_ok-hold.ensures.ok in
    subst (HasSums g.S.Semiring.operations c.args.system.now c.args.first.now c.args.row) (sym c.in_ok-read_again.ensures.hand) sums

pub returns-clause-onward : goal.returns-clause-onward
returns-clause-onward g c =
    item_then c.semiring-semiring.ensures.valid (g.S.Semiring.laws c.args.system.now.semiring) c.args.first.now c.args.tables.now c.hold.new.self c.requires.ready c.args.t c.args.row c.requires.entry c.in_ok-hold.ensures.ok
    c.read_again.new.tables c.read_on.new.tables c.in_ok-read_again.ensures.onward c.in_ok-read_again.ensures.hand c.in_ok-read_on.ensures.onward

pub returns-clause-gives : goal.returns-clause-gives
returns-clause-gives g c =
    item_given c.semiring-semiring.ensures.valid (g.S.Semiring.laws c.args.system.now.semiring) c.args.first.now c.args.tables.now c.hold.new.self c.requires.ready c.args.t c.args.row c.requires.entry c.in_ok-hold.ensures.ok
    c.read_again.new.tables c.read_on.new.tables c.in_ok-read_again.ensures.onward c.in_ok-read_again.ensures.hand c.in_ok-read_on.ensures.onward c.requires.empty c.requires.item c.in_ok-read_again.ensures.read
    c.in_ok-read_on.ensures.read
