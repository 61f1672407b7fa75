use Rattle.config_patterns.proofs.PathLemmas.{members_read}
use Rattle.config_patterns.proofs.laws.members_are_read.Goals as goal

pub returns : goal.returns
returns c = members_read
