use Rattle.wpds_port.proofs.LongestLemmas.{stops_exactly}
use Rattle.wpds_port.proofs.laws.words_stop_at_their_longest.Goals as goal

pub returns : goal.returns
returns c = stops_exactly
