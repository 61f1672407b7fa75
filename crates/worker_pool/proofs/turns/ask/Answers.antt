use Rattle.std.proofs.Common.{◌≡◌, ℕ, true, sym, ap, ◌∙◌, subst}
use Rattle.saturation_laws.specs.States.{seat_of}
use Rattle.seat_lock.specs.declared.view.View.{View}
use Rattle.seat_lock.specs.Passes.{own_number}
use Rattle.seat_lock.specs.Queue.{of_pass}
use Rattle.saturation_laws.specs.declared.event.Event.{Event}
use Rattle.worker_pool.specs.declared.shared.Origin.{Origin}
use Rattle.worker_pool.specs.Events.{is_ended}
use Rattle.worker_pool.specs.Steps.{BookAsked}
use Rattle.worker_pool.proofs.PassLemmas.{own_of}
use Rattle.worker_pool.proofs.WorkerTurnLemmas.{ask_grown, ask_keeps, has_asked}
use Rattle.worker_pool.proofs.turns.ask.Goals as goal

pub ask-asked-requires-clause-ended : goal.ask-asked-requires-clause-ended
ask-asked-requires-clause-ended g c =
    let own = own_of c.args.pass.seat.me.0 c.turn-held.result.value.book c.args.pass.is.some_claim c.turn-held.ensures.fits in
    subst (λ z. is_ended (of_pass seat_of c.number-seat.result z.book.journal) ≡ true) (sym c.value.ensures.value)
    (subst (λ (k : ℕ). is_ended (of_pass seat_of k c.turn-held.result.value.book.journal) ≡ true) (c.args.pass.is.names ∙ sym c.number-seat.ensures)
    (ap is_ended own ∙ c.requires.ended))

pub give_to-requires-clause-grown : goal.give_to-requires-clause-grown
give_to-requires-clause-grown g c =
    let asked = subst (λ (k : ℕ). BookAsked g.S.Semiring.operations g.D.Direction.way c.value.result.now.book k c.ask-asked.result c.ask-asked.new.book) (c.number-seat.ensures ∙ sym c.args.pass.is.names) c.ask-asked.ensures.asked in
    ask_grown g.S.Semiring.operations g.D.Direction.way c.turn-held.result.value.book c.ask-asked.new.book c.args.pass.seat.me.0 c.turn-held.result.seat.me.0 c.turn-held.result.ticket c.args.pass.is.some_claim
    c.turn-held.ensures.fits c.turn-held.ensures.turn c.ask-asked.result
    (subst (λ z. BookAsked g.S.Semiring.operations g.D.Direction.way z.book (own_number c.args.pass.seat.me.0.claims) c.ask-asked.result c.ask-asked.new.book) c.value.ensures.value asked)

pub returns-clause-asked : goal.returns-clause-asked
returns-clause-asked g c =
    let asked = subst (λ (k : ℕ). BookAsked g.S.Semiring.operations g.D.Direction.way c.value.result.now.book k c.ask-asked.result c.ask-asked.new.book) (c.number-seat.ensures ∙ sym c.args.pass.is.names) c.ask-asked.ensures.asked in
    has_asked g.S.Semiring.operations g.D.Direction.way c.turn-held.result.value.book c.ask-asked.new.book c.args.pass.seat.me.0 c.turn-held.result.seat.me.0 c.turn-held.result.ticket c.args.pass.is.some_claim
    c.turn-held.ensures.fits c.turn-held.ensures.turn c.give_to.result.seat.me.0 c.give_to.ensures.gave c.ask-asked.ensures.replays c.ask-asked.result
    (subst (λ z. BookAsked g.S.Semiring.operations g.D.Direction.way z.book (own_number c.args.pass.seat.me.0.claims) c.ask-asked.result c.ask-asked.new.book) c.value.ensures.value asked)

pub returns-clause-keeps : goal.returns-clause-keeps
returns-clause-keeps g c =
    let asked = subst (λ (k : ℕ). BookAsked g.S.Semiring.operations g.D.Direction.way c.value.result.now.book k c.ask-asked.result c.ask-asked.new.book) (c.number-seat.ensures ∙ sym c.args.pass.is.names) c.ask-asked.ensures.asked in
    ask_keeps g.S.Semiring.operations g.D.Direction.way c.turn-held.result.value.book c.ask-asked.new.book c.args.pass.seat.me.0 c.turn-held.result.seat.me.0 c.turn-held.result.ticket c.args.pass.is.some_claim
    c.turn-held.ensures.fits c.turn-held.ensures.turn c.give_to.result.seat.me.0 c.give_to.ensures.gave c.ask-asked.result
    (subst (λ z. BookAsked g.S.Semiring.operations g.D.Direction.way z.book (own_number c.args.pass.seat.me.0.claims) c.ask-asked.result c.ask-asked.new.book) c.value.ensures.value asked)

pub returns-clause-based : goal.returns-clause-based
returns-clause-based g c = (_, c.give_to.ensures.gave.0 ∙ ap (λ (z : View (Origin _ _ _ _) Event). z.base) c.turn-held.ensures.turn ∙ c.turn-held.ensures.fits.0)
