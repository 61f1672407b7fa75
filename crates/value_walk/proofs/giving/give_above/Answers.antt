use Rattle.value_walk.proofs.GivenLemmas.{above_given}
use Rattle.value_walk.proofs.giving.give_above.Goals as goal

pub returns : goal.returns
returns g c =
    let a = c.args in
    let v = a.tables.now in
    above_given g.S.Semiring.operations v (g.S.Semiring.laws v.system.semiring) c.valid.ensures.tables a.from.now a.to.now a.item a.control c.skip_item.new.tables c.fall_from.new.tables c.fall_from-2.new.tables
    c.in_ok-skip_item.ensures c.in_ok-fall_from.ensures c.in_ok-fall_from-2.ensures
