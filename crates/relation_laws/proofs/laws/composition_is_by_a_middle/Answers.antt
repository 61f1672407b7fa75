use Rattle.relation_laws.proofs.PairLemmas.{composition_gives, composition_from}
use Rattle.relation_laws.proofs.laws.composition_is_by_a_middle.Goals as goal

pub returns : goal.returns
returns c = λ n a b ra rb x z. (composition_gives n a b x z, λ m. composition_from n a b ra rb x m.0 z m.1 m.2)
