use Rattle.std.proofs.Common.{◌∙◌, subst}
use Rattle.saturation_laws.specs.declared.event.Event.TheVariants.{Take}
use Rattle.saturation_core.specs.Calls.{AnswersTake}
use Rattle.tests_workers.proofs.SeatLemmas.{keeps_others, worked_out}
use Rattle.tests_workers.proofs.seats.work.Goals as goal

pub returns-in-Ok-clause-out : goal.returns-in-Ok-clause-out
returns-in-Ok-clause-out g c =
    let answered = subst (λ t. AnswersTake g.S.Semiring.operations g.D.Direction.way c.args.book.now c.args.seat t c.take.new.self) c.in-Hand.is c.in_ok-hand.ensures.taken in
    worked_out g.S.Semiring.operations g.D.Direction.way c.args.book.now c.take.new.self c.args.seat c.in-Hand.hand c.in-Ok.done answered
    (c.hands_stay_out.ensures.taken c.args.book.now c.take.new.self c.args.seat c.in-Hand.hand c.system-system.ensures.book answered)
    c.in-Ok.ensures.seat c.in-Ok.ensures.jobs c.in-Ok.ensures.goals (c.in-Ok.ensures.system ∙ c.system-system.ensures.value) (c.in-Ok.ensures.direction ∙ c.direction-direction.ensures)

pub returns-in-Ok-clause-others : goal.returns-in-Ok-clause-others
returns-in-Ok-clause-others g c =
    let answered = subst (λ t. AnswersTake g.S.Semiring.operations g.D.Direction.way c.args.book.now c.args.seat t c.take.new.self) c.in-Hand.is c.in_ok-hand.ensures.taken in
    keeps_others g.S.Semiring.operations g.D.Direction.way c.args.book.now c.take.new.self (Take c.args.seat answered.0) answered.1 c.hands_stay_out.ensures.event
