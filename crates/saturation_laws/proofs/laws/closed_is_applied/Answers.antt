use Rattle.saturation_laws.proofs.BookInvariant.{closed_applies}
use Rattle.saturation_laws.proofs.laws.closed_is_applied.Goals as goal

pub returns : goal.returns
returns g c = closed_applies g.S.Semiring.operations g.S.Semiring.laws g.D.Direction.way g.met.D.Direction.laws
