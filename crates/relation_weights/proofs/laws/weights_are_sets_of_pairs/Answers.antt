use Rattle.relation_laws.proofs.CallerLemmas.{leads_combined, leads_nothing, same_relation}
use Rattle.relation_weights.specs.Relations.{source_of}
use Rattle.relation_weights.specs.RelationLaws.{fits_in, source_reads}
use Rattle.relation_weights.proofs.PairLemmas.{leads_extended, leads_one, leads_returned}
use Rattle.relation_weights.proofs.laws.weights_are_sets_of_pairs.Goals as goal

pub returns-clause-zero : goal.returns-clause-zero
returns-clause-zero c = leads_nothing

pub returns-clause-one : goal.returns-clause-one
returns-clause-one c = leads_one

pub returns-clause-combine : goal.returns-clause-combine
returns-clause-combine c = λ n a b fa fb. leads_combined n a b (fits_in n a fa) (fits_in n b fb)

pub returns-clause-extend : goal.returns-clause-extend
returns-clause-extend c = λ n a b fa fb. leads_extended n a b (fits_in n a fa) (fits_in n b fb)

pub returns-clause-after : goal.returns-clause-after
returns-clause-after c = λ n slots a fit fa. leads_returned n (source_of slots) (source_reads n slots fit) a (fits_in n a fa)

pub returns-clause-equal : goal.returns-clause-equal
returns-clause-equal c = λ n a b fa fb. same_relation n a b (fits_in n a fa) (fits_in n b fb)
