use Rattle.truth_tables.proofs.VariableLemmas.{variables_in_order}
use Rattle.truth_tables.proofs.laws.variables_among_words.Goals as goal

pub returns : goal.returns
returns c = variables_in_order
