use Rattle.value_search.proofs.TakeLemmas.{closed_enters}
use Rattle.value_search.proofs.laws.closed_enters_are_sums.Goals as goal

pub returns : goal.returns
returns g c = λ p target v valid tables pops closed finds none from h to. closed_enters valid (g.S.Semiring.laws p.semiring) target v tables pops closed finds none from h to
