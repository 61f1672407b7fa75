use Rattle.genkill_weights.proofs.MakingLemmas.{where_fits, where_generates, where_kills, mask_where_fits, facts_where}
use Rattle.genkill_weights.proofs.laws.weights_have_their_facts.Goals as goal

pub returns-clause-fits : goal.returns-clause-fits
returns-clause-fits c = where_fits

pub returns-clause-generated : goal.returns-clause-generated
returns-clause-generated c = where_generates

pub returns-clause-killed : goal.returns-clause-killed
returns-clause-killed c = where_kills

pub returns-clause-fits_map : goal.returns-clause-fits_map
returns-clause-fits_map c = mask_where_fits

pub returns-clause-restored : goal.returns-clause-restored
returns-clause-restored c = facts_where
