use Rattle.std.proofs.Common.{◌≡◌, subst}
use Rattle.std.specs.Prelude.{IfSome}
use Rattle.tests_workers.specs.Seats.{IsOutOf}
use Rattle.tests_workers.proofs.SeatLemmas.{keeps_both}
use Rattle.tests_workers.proofs.seats.turn.Goals as goal

pub returns-in-Some : goal.returns-in-Some
returns-in-Some g c =
    let out = subst (λ o. IfSome o (λ d. (d.seat ≡ c.args.seat) × IsOutOf g.S.Semiring.operations g.D.Direction.way c.work.new.book d)) c.in-Some.is c.in_ok-done.ensures.out in
    keeps_both g.S.Semiring.operations g.D.Direction.way c.settle.result c.args.book.now c.work.new.book c.settle.new.book c.args.seat c.in-Some.done.seat out.0 c.in_ok-done.ensures.others c.settle.ensures
