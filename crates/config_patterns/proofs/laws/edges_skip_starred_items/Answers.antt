use Rattle.config_patterns.proofs.SkipLemmas.{edges_are}
use Rattle.config_patterns.proofs.laws.edges_skip_starred_items.Goals as goal

pub returns : goal.returns
returns c = edges_are
