use Rattle.std.proofs.Common.{ℕ, sym, ◌∙◌, subst}
use Rattle.std.specs.Prelude.{MatchBool}
use Rattle.saturation_laws.specs.declared.event.Event.TheVariants.{Settle, GiveBack}
use Rattle.saturation_laws.specs.Books.{Makes}
use Rattle.seat_lock.specs.Passes.{own_number}
use Rattle.saturation_core.specs.HandsOut.{HasOut}
use Rattle.worker_pool.specs.Steps.{IsOverBook}
use Rattle.worker_pool.proofs.PassLemmas.{finds, over_book}
use Rattle.worker_pool.proofs.WorkerTurnLemmas.{settle_grown, has_settled, settle_keeps}
use Rattle.worker_pool.proofs.turns.settle.Goals as goal

pub settle-settled-requires-clause-out : goal.settle-settled-requires-clause-out
settle-settled-requires-clause-out g c =
    let hand = c.requires.hand in
    let b = c.turn-held.result.value.book in
    let found = finds g.S.Semiring.operations g.D.Direction.way c.args.pass.seat.me.0 b c.args.pass.is.some_claim c.turn-held.ensures.fits c.args.done.jobs c.args.done.goals hand in
    let out = c.hands_stay_out.ensures.events hand.book b _ (own_number c.args.pass.seat.me.0.claims) c.args.done.jobs c.args.done.goals hand.out found.0 found.1 in
    subst (λ z. HasOut g.S.Semiring.operations g.D.Direction.way z.book c.args.done.seat c.args.done.jobs c.args.done.goals) (sym c.value.ensures.value)
    (subst (λ (k : ℕ). HasOut g.S.Semiring.operations g.D.Direction.way c.turn-held.result.value.book k c.args.done.jobs c.args.done.goals) (c.args.pass.is.names ∙ sym c.requires.seat) out)

pub settle-settled-requires-clause-over : goal.settle-settled-requires-clause-over
settle-settled-requires-clause-over g c =
    let over = over_book c.args.pass.seat.me.0 c.turn-held.result.value.book c.args.pass.is.some_claim c.turn-held.ensures.fits c.args.done.system c.args.done.direction c.requires.over in
    subst (λ z. IsOverBook z.book c.args.done.system c.args.done.direction) (sym c.value.ensures.value) over

pub give_to-requires-clause-grown : goal.give_to-requires-clause-grown
give_to-requires-clause-grown g c =
    settle_grown g.S.Semiring.operations g.D.Direction.way c.turn-held.result.value.book c.settle-settled.new.book c.args.pass.seat.me.0 c.turn-held.result.seat.me.0 c.turn-held.result.ticket c.args.pass.is.some_claim
    c.turn-held.ensures.fits c.turn-held.ensures.turn c.settle-settled.result
    (subst (λ (k : ℕ). MatchBool c.settle-settled.result (Makes g.S.Semiring.operations g.D.Direction.way c.turn-held.result.value.book (Settle k) c.settle-settled.new.book) (Makes g.S.Semiring.operations g.D.Direction.way c.turn-held.result.value.book (GiveBack k) c.settle-settled.new.book))
    (c.requires.seat ∙ sym c.args.pass.is.names)
    (subst (λ z. MatchBool c.settle-settled.result (Makes g.S.Semiring.operations g.D.Direction.way z.book (Settle c.args.done.seat) c.settle-settled.new.book) (Makes g.S.Semiring.operations g.D.Direction.way z.book (GiveBack c.args.done.seat) c.settle-settled.new.book))
    c.value.ensures.value c.settle-settled.ensures))

pub returns-clause-keeps : goal.returns-clause-keeps
returns-clause-keeps g c =
    settle_keeps g.S.Semiring.operations g.D.Direction.way c.turn-held.result.value.book c.settle-settled.new.book c.args.pass.seat.me.0 c.turn-held.result.seat.me.0 c.turn-held.result.ticket c.args.pass.is.some_claim
    c.turn-held.ensures.fits c.turn-held.ensures.turn c.give_to.result.seat.me.0 c.give_to.ensures.gave c.settle-settled.result
    (subst (λ (k : ℕ). MatchBool c.settle-settled.result (Makes g.S.Semiring.operations g.D.Direction.way c.turn-held.result.value.book (Settle k) c.settle-settled.new.book) (Makes g.S.Semiring.operations g.D.Direction.way c.turn-held.result.value.book (GiveBack k) c.settle-settled.new.book))
    (c.requires.seat ∙ sym c.args.pass.is.names)
    (subst (λ z. MatchBool c.settle-settled.result (Makes g.S.Semiring.operations g.D.Direction.way z.book (Settle c.args.done.seat) c.settle-settled.new.book) (Makes g.S.Semiring.operations g.D.Direction.way z.book (GiveBack c.args.done.seat) c.settle-settled.new.book))
    c.value.ensures.value c.settle-settled.ensures))

pub returns-clause-settled : goal.returns-clause-settled
returns-clause-settled g c =
    has_settled g.S.Semiring.operations g.D.Direction.way c.turn-held.result.value.book c.settle-settled.new.book c.args.pass.seat.me.0 c.turn-held.result.seat.me.0 c.turn-held.result.ticket c.args.pass.is.some_claim
    c.turn-held.ensures.fits c.turn-held.ensures.turn c.give_to.result.seat.me.0 c.give_to.ensures.gave c.settle-settled.result
    (subst (λ (k : ℕ). MatchBool c.settle-settled.result (Makes g.S.Semiring.operations g.D.Direction.way c.turn-held.result.value.book (Settle k) c.settle-settled.new.book) (Makes g.S.Semiring.operations g.D.Direction.way c.turn-held.result.value.book (GiveBack k) c.settle-settled.new.book))
    (c.requires.seat ∙ sym c.args.pass.is.names)
    (subst (λ z. MatchBool c.settle-settled.result (Makes g.S.Semiring.operations g.D.Direction.way z.book (Settle c.args.done.seat) c.settle-settled.new.book) (Makes g.S.Semiring.operations g.D.Direction.way z.book (GiveBack c.args.done.seat) c.settle-settled.new.book))
    c.value.ensures.value c.settle-settled.ensures))
