use Rattle.saturation_laws.proofs.BookInvariant.{book_from}
use Rattle.saturation_laws.proofs.laws.every_order_keeps.Goals as goal

pub returns : goal.returns
returns g c = book_from g.S.Semiring.operations g.S.Semiring.laws g.D.Direction.way g.met.D.Direction.laws
