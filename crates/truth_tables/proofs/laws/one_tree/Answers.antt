use Rattle.truth_tables.proofs.Readings.{is_tree}
use Rattle.truth_tables.proofs.laws.one_tree.Goals as goal

pub returns : goal.returns
returns c = is_tree
