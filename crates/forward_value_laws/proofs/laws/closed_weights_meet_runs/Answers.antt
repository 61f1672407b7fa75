use Rattle.forward_value_laws.proofs.DeepLemmas.{run_met}
use Rattle.forward_value_laws.proofs.laws.closed_weights_meet_runs.Goals as goal

pub returns : goal.returns
returns g c = λ p start items weight valid closed word last run d reads final goes live. run_met valid (g.S.Semiring.laws p.semiring) start items weight closed word last run d reads final goes live
