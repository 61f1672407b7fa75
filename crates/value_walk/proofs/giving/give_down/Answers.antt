use Rattle.value_walk.proofs.GivenLemmas.{down_given}
use Rattle.value_walk.proofs.giving.give_down.Goals as goal

pub returns : goal.returns
returns g c =
    let a = c.args in
    let v = a.tables.now in
    down_given g.S.Semiring.operations v (g.S.Semiring.laws v.system.semiring) c.valid.ensures.tables a.from.now a.to.now a.state a.control c.meet.new.tables c.read_state.new.tables c.in_ok-meet.ensures c.in_ok-read_state.ensures
