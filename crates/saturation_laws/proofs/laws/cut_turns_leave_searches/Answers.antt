use Rattle.saturation_laws.proofs.SearchLemmas.{search_stops}
use Rattle.saturation_laws.proofs.laws.cut_turns_leave_searches.Goals as goal

pub returns : goal.returns
returns g c = λ v x q cs is front its. search_stops (g.S.Semiring.operations) (g.S.Semiring.laws) (g.D.Direction.way) (g.met.D.Direction.laws) v is x q front cs its
