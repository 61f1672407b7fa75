use Rattle.semiring_laws.proofs.ChainLemmas.{rank_within, rank_below, chain_within}
use Rattle.semiring_laws.proofs.laws.chains_are_short.Goals as goal

pub returns-clause-rank : goal.returns-clause-rank
returns-clause-rank g c = λ x a fit. rank_within (g.S.Semiring.laws x) a fit

pub returns-clause-falls : goal.returns-clause-falls
returns-clause-falls g c = λ x a b fit fit' below differs. rank_below (g.S.Semiring.laws x) a b fit fit' below differs

pub returns-clause-chain : goal.returns-clause-chain
returns-clause-chain g c = λ x a bs fit falling. chain_within (g.S.Semiring.laws x) a bs fit falling
