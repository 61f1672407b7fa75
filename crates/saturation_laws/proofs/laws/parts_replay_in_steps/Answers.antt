use Rattle.saturation_laws.proofs.ReplayLemmas.{replay_append}
use Rattle.saturation_laws.proofs.laws.parts_replay_in_steps.Goals as goal

pub returns : goal.returns
returns g c = λ s d old es fs. replay_append s d es fs old
