use Rattle.forward_value_laws.proofs.StopLemmas.{walk_answers}
use Rattle.forward_value_laws.proofs.laws.walks_answer.Goals as goal

pub returns : goal.returns
returns g c = λ p first wanted weight pair answer valid closed walked sum. walk_answers valid (g.S.Semiring.laws p.semiring) first wanted weight closed pair answer walked sum
