use Rattle.config_patterns.proofs.OnceLemmas.{edges_once}
use Rattle.config_patterns.proofs.laws.edges_stand_once.Goals as goal

pub returns : goal.returns
returns c = edges_once
