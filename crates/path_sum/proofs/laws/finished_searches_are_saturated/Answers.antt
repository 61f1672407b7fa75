use Rattle.path_sum.proofs.BookLemmas.{search_saturated}
use Rattle.path_sum.proofs.laws.finished_searches_are_saturated.Goals as goal

pub returns : goal.returns
returns g c = search_saturated g.S.Semiring.operations g.S.Semiring.laws g.D.Direction.way g.met.D.Direction.laws
