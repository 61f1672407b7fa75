use Rattle.std.proofs.Common.{ℕ, [], ◌∷◌, sym, ◌∙◌, subst}
use Rattle.std.specs.Prelude.{Some}
use Rattle.saturation_laws.specs.declared.event.Event.TheVariants.{Take, Settle, GiveBack}
use Rattle.seat_lock.specs.Passes.{own_number}
use Rattle.worker_pool.specs.Turns.{HasMore, HasAsked, HasSettled}
use Rattle.worker_pool.specs.Driving.{HasRound}
use Rattle.worker_pool.proofs.DrivingLemmas.{keeps_on, more_on}
use Rattle.worker_pool.proofs.driving.one_round.Goals.{then-settled, else-settled}
use Rattle.worker_pool.proofs.driving.one_round.Goals as goal

pub returns-in_default-clause-keeps : goal.returns-in_default-clause-keeps
returns-in_default-clause-keeps g c = keeps_on c.args.pass.seat.me.0 c.ask-pass.result.0.seat.me.0 c.give_back.result.seat.me.0 c.ask-pass.ensures.keeps c.give_back.ensures.keeps

pub returns-in_default-clause-round : goal.returns-in_default-clause-round
returns-in_default-clause-round g c =
    let asked = subst (λ a. HasAsked g.S.Semiring.operations g.D.Direction.way a c.args.pass.seat.me.0 c.ask-pass.result.0.seat.me.0) c.in-Hand.is c.ask-pass.ensures.asked in
    let n = own_number c.args.pass.seat.me.0.claims in (
      Some asked.0.0,
      more_on c.args.pass.seat.me.0 c.ask-pass.result.0.seat.me.0 c.give_back.result.seat.me.0 (Take n asked.0.0 ∷ []) (GiveBack n ∷ []) asked.0.1
          (subst (λ (k : ℕ). HasMore (GiveBack k ∷ []) c.ask-pass.result.0.seat.me.0 c.give_back.result.seat.me.0) c.ask-pass.ensures.keeps.number c.give_back.ensures.given),
    )

pub settle-pass-requires-clause-over : goal.settle-pass-requires-clause-over
settle-pass-requires-clause-over g c =
    let asked = subst (λ a. HasAsked g.S.Semiring.operations g.D.Direction.way a c.args.pass.seat.me.0 c.ask-pass.result.0.seat.me.0) c.in-Hand.is c.ask-pass.ensures.asked in
    λ o is. let over = asked.4 o (sym c.ask-pass.ensures.keeps.base ∙ is) in (c.in-Ok.ensures.system ∙ over.0, c.in-Ok.ensures.direction ∙ over.1)

pub returns-after-settled-clause-keeps : goal.returns-after-settled-clause-keeps
returns-after-settled-clause-keeps g c = keeps_on c.args.pass.seat.me.0 c.ask-pass.result.0.seat.me.0 c.settle-pass.result.0.seat.me.0 c.ask-pass.ensures.keeps c.settle-pass.ensures.keeps

pub returns-after-settled-clause-round : goal.returns-after-settled-clause-round
returns-after-settled-clause-round g c =
    let p = c.args.pass.seat.me.0 in
    let q = c.ask-pass.result.0.seat.me.0 in
    let r = c.settle-pass.result.0.seat.me.0 in
    let asked = subst (λ a. HasAsked g.S.Semiring.operations g.D.Direction.way a p q) c.in-Hand.is c.ask-pass.ensures.asked in
    let n = own_number p.claims in
    elim c.if-settled.branch [
      | then-settled w ↦ subst (λ z. HasRound g.S.Semiring.operations g.D.Direction.way z p r) (sym w.round-is) (
        asked.0.0,
        more_on p q r (Take n asked.0.0 ∷ []) (Settle n ∷ []) asked.0.1
            (subst (λ (k : ℕ). HasMore (Settle k ∷ []) q r) c.ask-pass.ensures.keeps.number (subst (λ b. HasSettled b q r) w.if-settled.true c.settle-pass.ensures.settled)),
      )
      | else-settled w ↦ subst (λ z. HasRound g.S.Semiring.operations g.D.Direction.way z p r) (sym w.round-is) (
        Some asked.0.0,
        more_on p q r (Take n asked.0.0 ∷ []) (GiveBack n ∷ []) asked.0.1
            (subst (λ (k : ℕ). HasMore (GiveBack k ∷ []) q r) c.ask-pass.ensures.keeps.number (subst (λ b. HasSettled b q r) w.if-settled.false c.settle-pass.ensures.settled)),
      )
    ]

pub returns-in_default-clause-based : goal.returns-in_default-clause-based
returns-in_default-clause-based g c = (c.ask-pass.ensures.based.0, c.give_back.ensures.keeps.base ∙ c.ask-pass.ensures.based.1)

pub returns-after-settled-clause-based : goal.returns-after-settled-clause-based
returns-after-settled-clause-based g c = (c.ask-pass.ensures.based.0, c.settle-pass.ensures.keeps.base ∙ c.ask-pass.ensures.based.1)
