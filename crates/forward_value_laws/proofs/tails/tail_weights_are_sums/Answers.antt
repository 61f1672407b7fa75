use Rattle.forward_value_laws.proofs.TailLemmas.{end_sum, open_sum, tailed_sum}
use Rattle.forward_value_laws.proofs.tails.tail_weights_are_sums.Goals as goal

pub returns-clause-ends : goal.returns-clause-ends
returns-clause-ends g c = λ p first i word last valid reads final symbols. end_sum valid (g.S.Semiring.laws p.semiring) first first i word last reads final symbols

pub returns-clause-opens : goal.returns-clause-opens
returns-clause-opens g c = λ p first k r a h from t v valid there right below row. open_sum valid (g.S.Semiring.laws p.semiring) first first k r there a h right from t v below row

pub returns-clause-rests : goal.returns-clause-rests
returns-clause-rests g c = λ p first wanted j from t w valid rest below walked. tailed_sum valid (g.S.Semiring.laws p.semiring) first wanted j rest from t w below walked
