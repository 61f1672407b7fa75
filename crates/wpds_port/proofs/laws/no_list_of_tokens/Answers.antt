use Rattle.wpds_port.proofs.StopLemmas.{is_stuck}
use Rattle.wpds_port.proofs.laws.no_list_of_tokens.Goals as goal

pub returns : goal.returns
returns c = is_stuck
