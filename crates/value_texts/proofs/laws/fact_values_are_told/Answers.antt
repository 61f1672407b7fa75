use Rattle.value_texts.proofs.ToldLemmas.{facts_are_told}
use Rattle.value_texts.proofs.laws.fact_values_are_told.Goals as goal

pub returns : goal.returns
returns c = facts_are_told
