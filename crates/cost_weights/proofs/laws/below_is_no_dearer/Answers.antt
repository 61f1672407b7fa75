use Rattle.cost_weights.proofs.CostLemmas.{numbers_below, below_no_run, no_run_below}
use Rattle.cost_weights.proofs.laws.below_is_no_dearer.Goals as goal

pub returns-clause-numbers : goal.returns-clause-numbers
returns-clause-numbers c = numbers_below

pub returns-clause-no_run : goal.returns-clause-no_run
returns-clause-no_run c = below_no_run

pub returns-clause-only_no_run : goal.returns-clause-only_no_run
returns-clause-only_no_run c = no_run_below
