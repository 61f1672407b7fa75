use Rattle.std.proofs.Common.{sym, subst}
use Rattle.std.specs.Prelude.{OnOk}
use Rattle.saturation_laws.specs.declared.event.Event.TheVariants.{Settle}
use Rattle.saturation_laws.specs.Books.{Makes}
use Rattle.tests_workers.specs.Seats.{KeepsOthers}
use Rattle.tests_workers.proofs.SeatLemmas.{keeps_others}
use Rattle.tests_workers.proofs.seats.settle.Goals.{in-Ok, in-Err}
use Rattle.tests_workers.proofs.seats.settle.Goals as goal

pub settle-requires : goal.settle-requires
settle-requires g c = c.hands_out_tell.ensures.settles c.args.book.now c.args.done c.system.ensures.book c.requires.0 c.requires.1 c.requires.2

pub returns : goal.returns
returns g c = elim c.match-settle.branch [
  | in-Ok w ↦ subst (λ r. OnOk r (KeepsOthers g.S.Semiring.operations g.D.Direction.way c.args.done.seat c.args.book.now c.settle.new.self)) (sym w.result-is)
      (keeps_others g.S.Semiring.operations g.D.Direction.way c.args.book.now c.settle.new.self (Settle c.args.done.seat)
      (subst (λ r. OnOk r (Makes g.S.Semiring.operations g.D.Direction.way c.args.book.now (Settle c.args.done.seat) c.settle.new.self)) w.in-Ok.is c.settle.ensures.settled)
      c.hands_stay_out.ensures.event)
  | in-Err w ↦ subst (λ r. OnOk r (KeepsOthers g.S.Semiring.operations g.D.Direction.way c.args.done.seat c.args.book.now c.settle.new.self)) (sym w.result-is) tt
]
