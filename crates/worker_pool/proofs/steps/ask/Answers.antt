use Rattle.std.proofs.Common.{◌≡◌, sym, ap, ◌∙◌, subst}
use Rattle.std.specs.Prelude.{Ok, IfOk, OnErr}
use Rattle.saturation_core.specs.Calls.{AnswersTake}
use Rattle.worker_pool.specs.Steps.{BookAsked}
use Rattle.worker_pool.proofs.StepLemmas.{free_at, given_hand}
use Rattle.worker_pool.proofs.steps.ask.Goals.{in-Ok-Hand, in-Ok-Idle, in-Ok-Closed, in-Err}
use Rattle.worker_pool.proofs.steps.ask.Goals as goal

pub take-requires-clause-free : goal.take-requires-clause-free
take-requires-clause-free g c = free_at g.S.Semiring.operations g.D.Direction.way c.args.book.now c.system-system.ensures.book.replays c.args.seat c.requires.ended

pub returns-clause-asked : goal.returns-clause-asked
returns-clause-asked g c =
    let P = BookAsked g.S.Semiring.operations g.D.Direction.way c.args.book.now c.args.seat in
    elim c.match-take.branch [
      | in-Ok-Hand w ↦ subst (λ a. P a c.take.new.self) (sym w.asked-is)
          (given_hand g.S.Semiring.operations g.D.Direction.way c.args.book.now c.take.new.self c.args.seat c.take.result w.in-Ok-Hand.hand _ _ (w.in-Ok-Hand.is ∙ ap Ok w.in-Ok-Hand.field-0-is) (c.hands_stay_out.ensures.taken c.args.book.now c.take.new.self c.args.seat w.in-Ok-Hand.hand c.system-system.ensures.book) c.take.ensures.taken c.take.ensures.works
          c.system-system.ensures.value c.direction-direction.ensures)
      | in-Ok-Idle w ↦ subst (λ a. P a c.take.new.self) (sym w.asked-is)
          (subst (λ o. IfOk o (λ t. AnswersTake g.S.Semiring.operations g.D.Direction.way c.args.book.now c.args.seat t c.take.new.self)) (w.in-Ok-Idle.is ∙ ap Ok w.in-Ok-Idle.field-0-is) c.take.ensures.taken).3
      | in-Ok-Closed w ↦ subst (λ a. P a c.take.new.self) (sym w.asked-is)
          (let t = subst (λ o. IfOk o (λ t. AnswersTake g.S.Semiring.operations g.D.Direction.way c.args.book.now c.args.seat t c.take.new.self)) (w.in-Ok-Closed.is ∙ ap Ok w.in-Ok-Closed.field-0-is) c.take.ensures.taken in (t.1, t.0))
      | in-Err w ↦ subst (λ a. P a c.take.new.self) (sym w.asked-is)
          (subst (λ o. OnErr o (c.take.new.self ≡ c.args.book.now)) w.in-Err.is c.take.ensures.err)
    ]
