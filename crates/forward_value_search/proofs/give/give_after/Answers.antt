use Rattle.forward_value_search.proofs.OnwardLemmas.{lowered_after}
use Rattle.forward_value_search.proofs.give.give_after.Goals as goal

pub returns-clause-onward : goal.returns-clause-onward
returns-clause-onward g c =
    (lowered_after c.semiring-semiring.ensures.valid (g.S.Semiring.laws c.args.system.now.semiring) c.args.first.now c.args.tables.now c.requires.ready c.args.place c.args.entry c.args.t c.requires.entry c.requires.sums
    c.lower_after.new.self c.in_ok-lower_after.ensures.ok c.valid.ensures.tables).0

pub returns-clause-given : goal.returns-clause-given
returns-clause-given g c =
    (lowered_after c.semiring-semiring.ensures.valid (g.S.Semiring.laws c.args.system.now.semiring) c.args.first.now c.args.tables.now c.requires.ready c.args.place c.args.entry c.args.t c.requires.entry c.requires.sums
    c.lower_after.new.self c.in_ok-lower_after.ensures.ok c.valid.ensures.tables).1

pub returns-clause-hand : goal.returns-clause-hand
returns-clause-hand g c =
    (lowered_after c.semiring-semiring.ensures.valid (g.S.Semiring.laws c.args.system.now.semiring) c.args.first.now c.args.tables.now c.requires.ready c.args.place c.args.entry c.args.t c.requires.entry c.requires.sums
    c.lower_after.new.self c.in_ok-lower_after.ensures.ok c.valid.ensures.tables).2
