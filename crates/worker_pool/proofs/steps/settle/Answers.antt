use Rattle.std.proofs.Common.{◌≡◌, sym, subst}
use Rattle.std.specs.Prelude.{OnErr, OnOk, IsSome}
use Rattle.saturation_laws.specs.declared.event.Event.TheVariants.{Settle}
use Rattle.saturation_laws.specs.States.{hand_at}
use Rattle.saturation_laws.specs.Books.{Makes}
use Rattle.worker_pool.proofs.StepLemmas.{has_hand, ends_settled, ends_given}
use Rattle.worker_pool.proofs.steps.settle.Goals.{in-Ok, in-Err}
use Rattle.worker_pool.proofs.steps.settle.Goals as goal

pub settle-requires : goal.settle-requires
settle-requires g c = c.hands_out_tell.ensures.settles c.args.book.now c.args.done c.system.ensures.book c.requires.out c.requires.over.0 c.requires.over.1

pub give_back-requires : goal.give_back-requires
give_back-requires g c =
    let same = subst (λ o. OnErr o (c.settle.new.self ≡ c.args.book.now)) c.in-Err.is c.settle.ensures.err in
    record {
      out = subst (λ (b : _). IsSome (hand_at c.seat-seat.result b.state.hands)) (sym same)
          (subst (λ k. IsSome (hand_at k c.args.book.now.state.hands)) (sym c.seat-seat.ensures)
          (has_hand (hand_at c.args.done.seat c.args.book.now.state.hands) c.args.done.jobs (c.hands_out_tell.ensures.tells c.args.book.now c.args.done.seat c.args.done.jobs c.args.done.goals c.system.ensures.book c.requires.out).0));
    }

pub returns : goal.returns
returns g c = elim c.match-settle.branch [
  | in-Ok w ↦ ends_settled g.S.Semiring.operations g.D.Direction.way c.args.book.now c.settle.new.self c.args.done.seat c.match-settle.result c.match-settle.book w.result-is w.book-is
      (subst (λ o. OnOk o (Makes g.S.Semiring.operations g.D.Direction.way c.args.book.now (Settle c.args.done.seat) c.settle.new.self)) w.in-Ok.is c.settle.ensures.settled)
  | in-Err w ↦ ends_given g.S.Semiring.operations g.D.Direction.way c.args.book.now c.settle.new.self w.give_back.new.self c.args.done.seat c.seat-seat.result c.match-settle.result c.match-settle.book w.result-is w.book-is
      (subst (λ o. OnErr o (c.settle.new.self ≡ c.args.book.now)) w.in-Err.is c.settle.ensures.err) c.seat-seat.ensures w.give_back.ensures
]
