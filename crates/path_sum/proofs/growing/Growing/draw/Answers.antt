use Rattle.path_sum.specs.Sums.{ways_of}
use Rattle.path_sum.specs.private.Growing.{state_of}
use Rattle.path_sum.proofs.LoopLemmas.{drawn_all}
use Rattle.path_sum.proofs.growing.Growing.draw.Goals as goal

pub returns-in_ok-finish-in-Empty-clause-grows : goal.returns-in_ok-finish-in-Empty-clause-grows
returns-in_ok-finish-in-Empty-clause-grows g c =
    drawn_all (g.S.Semiring.operations c.args.input.now.semiring) c.args.input.now.side c.args.input.now.opening c.args.input.now.transitions (ways_of c.args.input.now.pattern)
    c.args.taken.place (state_of c.args.self.now) (state_of c.follow_all.new.self) (state_of c.finish.new.self) c.in-Empty.is c.in_ok-follow_all-in-Empty.ensures.grows c.in_ok-finish-in-Empty.ensures.grows
