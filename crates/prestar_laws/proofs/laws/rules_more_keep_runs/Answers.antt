use Rattle.prestar_laws.proofs.RuleRunLemmas.{run_more, run_below, value_more}
use Rattle.prestar_laws.proofs.laws.rules_more_keep_runs.Goals as goal

pub returns-clause-runs : goal.returns-clause-runs
returns-clause-runs g c = λ p r a b run goes. run_more p r run a b goes

pub returns-clause-values : goal.returns-clause-values
returns-clause-values g c = λ p r a b run goes. value_more p r (g.S.Semiring.operations p.semiring) run (run_below p r run a b goes)
