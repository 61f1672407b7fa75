use Rattle.saturation_laws.proofs.BookInvariant.{book_takes, book_nodes}
use Rattle.saturation_laws.proofs.laws.takes_are_bounded.Goals as goal

pub returns-clause-takes : goal.returns-clause-takes
returns-clause-takes g c = book_takes g.S.Semiring.operations g.S.Semiring.laws g.D.Direction.way g.met.D.Direction.laws

pub returns-clause-nodes : goal.returns-clause-nodes
returns-clause-nodes g c = book_nodes g.S.Semiring.operations g.S.Semiring.laws g.D.Direction.way g.met.D.Direction.laws
