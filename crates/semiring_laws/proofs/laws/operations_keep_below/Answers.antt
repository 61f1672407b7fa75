use Rattle.semiring_laws.proofs.OrderLemmas.{extend_keeps_below}
use Rattle.semiring_laws.proofs.laws.operations_keep_below.Goals as goal

pub returns-clause-extend : goal.returns-clause-extend
returns-clause-extend g c = λ x a b d e fit_a fit_b fit_d fit_e ab de. extend_keeps_below (g.S.Semiring.laws x) a b d e fit_a fit_b fit_d fit_e ab de
