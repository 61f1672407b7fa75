use Rattle.poststar_laws.proofs.PlaceLemmas.{states_few}
use Rattle.poststar_laws.proofs.laws.forward_states_are_few.Goals as goal

pub returns : goal.returns
returns g c = λ items p valid few. states_few valid items few
