use Rattle.weight_tables.proofs.BoundLemmas.{turns_bounded}
use Rattle.weight_tables.proofs.laws.turns_are_bounded.Goals as goal

pub returns : goal.returns
returns g c = λ x es table. turns_bounded (g.S.Semiring.laws x) es table
