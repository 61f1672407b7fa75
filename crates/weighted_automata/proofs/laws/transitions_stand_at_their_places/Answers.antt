use Rattle.weighted_automata.proofs.EntryLemmas.{entry_at-place}
use Rattle.weighted_automata.proofs.laws.transitions_stand_at_their_places.Goals as goal

pub returns : goal.returns
returns g c = λ x ts t found. entry_at-place x ts t found
