use Rattle.genkill_weights.proofs.EffectLemmas.{changes_facts, is_of_effects, equal_by_effects}
use Rattle.genkill_weights.proofs.laws.weights_are_their_effects.Goals as goal

pub returns-clause-function : goal.returns-clause-function
returns-clause-function c = changes_facts

pub returns-clause-value : goal.returns-clause-value
returns-clause-value c = is_of_effects

pub returns-clause-equal : goal.returns-clause-equal
returns-clause-equal c = equal_by_effects
