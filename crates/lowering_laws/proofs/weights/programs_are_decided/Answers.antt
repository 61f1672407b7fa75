use Rattle.lowering_laws.proofs.ProgramLemmas.{decided}
use Rattle.lowering_laws.proofs.weights.programs_are_decided.Goals as goal

pub returns : goal.returns
returns c = λ p point system read is_point valid low.
    decided c.relations_mean_pairs.ensures p point system (c.programs_are_lawful.ensures.read p read) is_point valid low
