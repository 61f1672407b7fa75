use Rattle.forward_value_search.proofs.OnwardLemmas.{lowered}
use Rattle.forward_value_search.proofs.give.give.Goals as goal

pub returns-clause-onward : goal.returns-clause-onward
returns-clause-onward g c =
    (lowered c.semiring-semiring.ensures.valid (g.S.Semiring.laws c.args.system.now.semiring) c.args.first.now c.args.tables.now c.requires.ready c.args.place c.args.tables.now.hand c.requires.ready.hand c.requires.sums
    c.lower.new.self c.in_ok-lower.ensures.ok c.valid.ensures.tables).0

pub returns-clause-given : goal.returns-clause-given
returns-clause-given g c =
    (lowered c.semiring-semiring.ensures.valid (g.S.Semiring.laws c.args.system.now.semiring) c.args.first.now c.args.tables.now c.requires.ready c.args.place c.args.tables.now.hand c.requires.ready.hand c.requires.sums
    c.lower.new.self c.in_ok-lower.ensures.ok c.valid.ensures.tables).1
