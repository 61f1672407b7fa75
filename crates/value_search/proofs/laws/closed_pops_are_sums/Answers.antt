use Rattle.value_search.proofs.TakeLemmas.{closed_pops}
use Rattle.value_search.proofs.laws.closed_pops_are_sums.Goals as goal

pub returns : goal.returns
returns g c = λ p v valid tables finds none from h to. closed_pops valid (g.S.Semiring.laws p.semiring) v tables finds none from h to
