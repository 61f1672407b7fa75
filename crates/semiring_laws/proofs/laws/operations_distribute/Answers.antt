use Rattle.semiring_laws.proofs.CombinationLemmas.{extend_combination, combination_extend, after_combination}
use Rattle.semiring_laws.proofs.laws.operations_distribute.Goals as goal

pub returns-clause-left : goal.returns-clause-left
returns-clause-left g c = λ x a ws fit fits. extend_combination (g.S.Semiring.laws x) a ws fit fits

pub returns-clause-right : goal.returns-clause-right
returns-clause-right g c = λ x ws b fits fit. combination_extend (g.S.Semiring.laws x) ws b fits fit

pub returns-clause-after : goal.returns-clause-after
returns-clause-after g c = λ x h ws fit fits. after_combination (g.S.Semiring.laws x) h ws fit fits
