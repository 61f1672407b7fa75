use Rattle.truth_tables.proofs.MachineLemmas.{made_of_tree}
use Rattle.truth_tables.proofs.laws.one_making.Goals as goal

pub returns : goal.returns
returns g c = made_of_tree
