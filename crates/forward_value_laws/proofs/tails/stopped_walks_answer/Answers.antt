use Rattle.forward_value_laws.proofs.StopLemmas.{stopped_answers}
use Rattle.forward_value_laws.proofs.tails.stopped_walks_answer.Goals as goal

pub returns : goal.returns
returns g c = λ p first wanted weight stops tail pair answer valid closed tails walked sum.
    stopped_answers valid (g.S.Semiring.laws p.semiring) first wanted weight closed stops tail tails pair answer walked sum
