use Rattle.relation_laws.specs.Relations.{leads, relation_of}
use Rattle.relation_weights.specs.Actions.{assumed, assigned}
use Rattle.lowering_laws.proofs.WeightLemmas.{assumed_means, assigned_means, through}
use Rattle.lowering_laws.proofs.weights.actions_mean_effects.Goals as goal

pub returns-clause-assume : goal.returns-clause-assume
returns-clause-assume c = λ n f over x y.
    through (leads (relation_of n (assumed n f)) x y) (assumed n f x y) (c.actions_are_sets_of_pairs.ensures.assume n f over x y) (assumed_means n f x y)

pub returns-clause-assign : goal.returns-clause-assign
returns-clause-assign c = λ n ts are x y.
    through (leads (relation_of n (assigned n ts)) x y) (assigned n ts x y) (c.actions_are_sets_of_pairs.ensures.assign n ts are x y) (assigned_means n ts x y)
