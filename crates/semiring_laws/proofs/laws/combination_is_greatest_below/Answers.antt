use Rattle.semiring_laws.proofs.CombinationLemmas.{combination_fits, combination_below_each, below_combination_of}
use Rattle.semiring_laws.proofs.laws.combination_is_greatest_below.Goals as goal

pub returns-clause-fits : goal.returns-clause-fits
returns-clause-fits g c = λ x ws fit. combination_fits (g.S.Semiring.laws x) ws fit

pub returns-clause-each : goal.returns-clause-each
returns-clause-each g c = λ x ws fit. combination_below_each (g.S.Semiring.laws x) ws fit

pub returns-clause-greatest : goal.returns-clause-greatest
returns-clause-greatest g c = λ x v ws fit fits below. below_combination_of (g.S.Semiring.laws x) v ws fit fits below
