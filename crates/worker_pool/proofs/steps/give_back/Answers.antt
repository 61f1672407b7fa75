use Rattle.saturation_laws.specs.States.{hand_at}
use Rattle.worker_pool.proofs.StepLemmas.{has_hand}
use Rattle.worker_pool.proofs.steps.give_back.Goals as goal

pub give_back-requires : goal.give_back-requires
give_back-requires g c =
    let hand = c.requires.out.0 in
    record {
      out = has_hand (hand_at c.args.seat c.args.book.now.state.hands) hand.jobs (c.hands_out_tell.ensures.tells c.args.book.now c.args.seat hand.jobs hand.goals c.system.ensures.book c.requires.out.1).0;
    }
