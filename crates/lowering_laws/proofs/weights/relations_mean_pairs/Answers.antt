use Rattle.lowering_laws.proofs.WeightLemmas.{means_relations}
use Rattle.lowering_laws.proofs.weights.relations_mean_pairs.Goals as goal

pub returns : goal.returns
returns c =
    let laws = c.weights_are_sets_of_pairs.ensures in
    means_relations laws.zero laws.one laws.extend laws.after laws.equal
