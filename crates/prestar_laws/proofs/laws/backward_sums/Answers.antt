use Rattle.std.proofs.Common.{refl}
use Rattle.prestar_laws.specs.Jobs.{pre_tables}
use Rattle.prestar_laws.proofs.ClosingLemmas.{pre_sums}
use Rattle.prestar_laws.proofs.laws.backward_sums.Goals as goal

pub returns : goal.returns
returns g c = λ p o valid items. pre_sums valid (g.S.Semiring.laws p.semiring) o items (pre_tables (g.S.Semiring.operations p.semiring) p) (record { side = refl; rows = λ row. refl; candidate = λ j. refl })
