use Rattle.wpds_port.proofs.TokenLemmas.{are_tokens}
use Rattle.wpds_port.proofs.laws.one_list_of_tokens.Goals as goal

pub returns : goal.returns
returns c = are_tokens
