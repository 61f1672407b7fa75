use Rattle.relation_laws.specs.Relations.{leads, relation_of}
use Rattle.relation_laws.proofs.PairLemmas.{leads_of, is_relation_of, parts_are, parts_equal, fits_canonical, fits_below, fits_from}
use Rattle.relation_laws.proofs.laws.one_diagram.Goals as goal

pub returns-clause-pairs : goal.returns-clause-pairs
returns-clause-pairs c = leads_of

pub returns-clause-only : goal.returns-clause-only
returns-clause-only c = λ n w a canonical below same. is_relation_of n w canonical below a same

pub returns-clause-fits : goal.returns-clause-fits
returns-clause-fits c = λ n w. (
  λ fit. let f = parts_are (relation_of n (leads w)) w fit in (fits_canonical n w f, fits_below n w f),
  λ both. (parts_equal (relation_of n (leads w)) w).1 (fits_from n w both.0 both.1),
)
