use Rattle.saturation_core.proofs.HandLemmas.{bits_are}
use Rattle.saturation_core.proofs.laws.bits_are_seats.Goals as goal

pub returns : goal.returns
returns g c = bits_are
