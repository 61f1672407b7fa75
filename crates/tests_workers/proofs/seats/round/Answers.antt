use Rattle.std.proofs.Common.{◌≡◌, arith, subst}
use Rattle.std.specs.Prelude.{IfSome}
use Rattle.tests_workers.specs.Seats.{IsOutOf}
use Rattle.tests_workers.proofs.seats.round.Goals as goal

pub settle-requires : goal.settle-requires
settle-requires g c =
    let out = subst (λ o. IfSome o (λ d. (d.seat ≡ 0) × IsOutOf g.S.Semiring.operations g.D.Direction.way c.work.new.book d)) c.in-Some.is c.in_ok-first.ensures.out in
    c.in_ok-turn.ensures c.in-Some.first (λ at. omega (arith, out.0, at)) out.1
