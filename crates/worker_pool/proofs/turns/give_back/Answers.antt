use Rattle.std.proofs.Common.{ℕ, sym, ◌∙◌, subst, refl}
use Rattle.saturation_laws.specs.declared.event.Event.TheVariants.{GiveBack}
use Rattle.saturation_laws.specs.Books.{Makes}
use Rattle.saturation_core.specs.HandsOut.{HasOut}
use Rattle.seat_lock.specs.Passes.{own_number}
use Rattle.worker_pool.proofs.PassLemmas.{finds}
use Rattle.worker_pool.proofs.WorkerTurnLemmas.{event_grown, event_keeps, event_more}
use Rattle.worker_pool.proofs.turns.give_back.Goals as goal

pub give_back-requires : goal.give_back-requires
give_back-requires g c =
    let hand = c.requires.hand in
    let b = c.turn-held.result.value.book in
    let found = finds g.S.Semiring.operations g.D.Direction.way c.args.pass.seat.me.0 b c.args.pass.is.some_claim c.turn-held.ensures.fits hand.0.jobs hand.0.goals hand.1 in
    let out = c.hands_stay_out.ensures.events hand.1.book b _ (own_number c.args.pass.seat.me.0.claims) hand.0.jobs hand.0.goals hand.1.out found.0 found.1 in
    record {
      out = (
        hand.0,
        subst (λ z. HasOut g.S.Semiring.operations g.D.Direction.way z.book c.number-seat.result hand.0.jobs hand.0.goals) (sym c.value.ensures.value)
            (subst (λ (k : ℕ). HasOut g.S.Semiring.operations g.D.Direction.way c.turn-held.result.value.book k hand.0.jobs hand.0.goals) (c.args.pass.is.names ∙ sym c.number-seat.ensures) out),
      );
    }

pub give-requires-clause-grown : goal.give-requires-clause-grown
give-requires-clause-grown g c =
    event_grown g.S.Semiring.operations g.D.Direction.way c.turn-held.result.value.book c.give_back.new.book c.args.pass.seat.me.0 c.turn-held.result.seat.me.0 c.turn-held.result.ticket c.args.pass.is.some_claim
    c.turn-held.ensures.fits c.turn-held.ensures.turn (GiveBack _) refl
    (subst (λ (k : ℕ). Makes g.S.Semiring.operations g.D.Direction.way c.turn-held.result.value.book (GiveBack k) c.give_back.new.book) (c.number-seat.ensures ∙ sym c.args.pass.is.names)
    (subst (λ z. Makes g.S.Semiring.operations g.D.Direction.way z.book (GiveBack c.number-seat.result) c.give_back.new.book) c.value.ensures.value c.give_back.ensures))

pub returns-clause-given : goal.returns-clause-given
returns-clause-given g c =
    event_more g.S.Semiring.operations g.D.Direction.way c.turn-held.result.value.book c.give_back.new.book c.args.pass.seat.me.0 c.turn-held.result.seat.me.0 c.turn-held.result.ticket c.args.pass.is.some_claim
    c.turn-held.ensures.fits c.turn-held.ensures.turn c.give.result.seat.me.0 c.give.ensures.gave (GiveBack _) refl
    (subst (λ (k : ℕ). Makes g.S.Semiring.operations g.D.Direction.way c.turn-held.result.value.book (GiveBack k) c.give_back.new.book) (c.number-seat.ensures ∙ sym c.args.pass.is.names)
    (subst (λ z. Makes g.S.Semiring.operations g.D.Direction.way z.book (GiveBack c.number-seat.result) c.give_back.new.book) c.value.ensures.value c.give_back.ensures))

pub returns-clause-keeps : goal.returns-clause-keeps
returns-clause-keeps g c =
    event_keeps g.S.Semiring.operations g.D.Direction.way c.turn-held.result.value.book c.give_back.new.book c.args.pass.seat.me.0 c.turn-held.result.seat.me.0 c.turn-held.result.ticket c.args.pass.is.some_claim
    c.turn-held.ensures.fits c.turn-held.ensures.turn c.give.result.seat.me.0 c.give.ensures.gave (GiveBack _) refl
    (subst (λ (k : ℕ). Makes g.S.Semiring.operations g.D.Direction.way c.turn-held.result.value.book (GiveBack k) c.give_back.new.book) (c.number-seat.ensures ∙ sym c.args.pass.is.names)
    (subst (λ z. Makes g.S.Semiring.operations g.D.Direction.way z.book (GiveBack c.number-seat.result) c.give_back.new.book) c.value.ensures.value c.give_back.ensures))
