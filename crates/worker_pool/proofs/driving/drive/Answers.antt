use Rattle.std.proofs.Common.{[], ◌∷◌, subst}
use Rattle.worker_pool.specs.Driving.{HasRound}
use Rattle.worker_pool.proofs.DrivingLemmas.{ended_between, goes_on, same_on}
use Rattle.worker_pool.proofs.driving.drive.Goals as goal

pub one_round-next-requires-clause-ended : goal.one_round-next-requires-clause-ended
one_round-next-requires-clause-ended g c = λ κs outlives. ended_between c.args.pass.seat.me.0 c.loop.pass.seat.me.0 c.requires.ended c.loop.invariant.1

pub loop-preserved-in-Settled : goal.loop-preserved-in-Settled
loop-preserved-in-Settled g c =
    let round = subst (λ z. HasRound g.S.Semiring.operations g.D.Direction.way z c.loop.pass.seat.me.0 c.one_round-next.result.0.seat.me.0) c.in-Settled.is c.one_round-next.ensures.round in (
      same_on c.args.pass c.loop.pass c.one_round-next.result.0 c.loop.invariant.0 c.one_round-next.ensures.pass,
      goes_on c.args.pass.seat.me.0 c.loop.pass.seat.me.0 c.one_round-next.result.0.seat.me.0 (round.0 ∷ []) c.loop.invariant.1 c.one_round-next.ensures.keeps round.1,
    )
