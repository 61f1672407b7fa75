use Rattle.lowering_laws.proofs.WithinLemmas.{plan_within, point_of_symbol}
use Rattle.lowering_laws.proofs.MakingLemmas.{few_variables}
use Rattle.lowering_laws.proofs.PointLemmas.{symbol_at}
use Rattle.lowering_laws.proofs.CountLemmas.{all_points, all_rules}
use Rattle.lowering_laws.proofs.plans.plans_are_within.Goals as goal

pub returns-clause-rules : goal.returns-clause-rules
returns-clause-rules c = λ p lawful. plan_within p lawful

pub returns-clause-points : goal.returns-clause-points
returns-clause-points c = λ p point g e. point_of_symbol p point g e

pub returns-clause-variables : goal.returns-clause-variables
returns-clause-variables c = λ p n room narrow. few_variables p n room narrow

pub returns-clause-symbols : goal.returns-clause-symbols
returns-clause-symbols c = λ p point g read e. symbol_at p read point g e

pub returns-clause-all_points : goal.returns-clause-all_points
returns-clause-all_points c = λ p. all_points p

pub returns-clause-all_rules : goal.returns-clause-all_rules
returns-clause-all_rules c = λ p. all_rules p (λ i. c.rules_are_ways.ensures p i)
