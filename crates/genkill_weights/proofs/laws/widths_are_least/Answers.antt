use Rattle.genkill_weights.proofs.WidthLemmas.{least_width, width_is_least}
use Rattle.genkill_weights.proofs.laws.widths_are_least.Goals as goal

pub returns-clause-found : goal.returns-clause-found
returns-clause-found c = least_width

pub returns-clause-one : goal.returns-clause-one
returns-clause-one c = width_is_least
