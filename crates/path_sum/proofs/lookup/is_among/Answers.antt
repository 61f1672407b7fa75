use Rattle.path_sum.proofs.LookupLemmas.{found}
use Rattle.path_sum.proofs.lookup.is_among.Goals as goal
use Rattle.std.proofs.Common.{◌∙◌}

pub returns : goal.returns
returns c = λ rise. c.is_ok.ensures.value ∙ found c.args.sorted.now c.args.symbol c.binary_search.result c.binary_search.ensures.position rise
