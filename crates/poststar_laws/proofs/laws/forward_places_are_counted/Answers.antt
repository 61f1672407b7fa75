use Rattle.poststar_laws.proofs.PlaceLemmas.{length-post_places}
use Rattle.poststar_laws.proofs.laws.forward_places_are_counted.Goals as goal

pub returns : goal.returns
returns g c = length-post_places
