use Rattle.saturation_laws.proofs.ReplayLemmas.{others_leave}
use Rattle.saturation_laws.proofs.laws.others_leave_a_hand.Goals as goal

pub returns : goal.returns
returns g c = λ s d old new es seat legal others. others_leave s d es old new seat legal others
