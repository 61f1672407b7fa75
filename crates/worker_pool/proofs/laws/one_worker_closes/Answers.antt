use Rattle.worker_pool.proofs.ClosingLemmas.{closes, opens}
use Rattle.worker_pool.proofs.laws.one_worker_closes.Goals as goal

pub returns-clause-closes : goal.returns-clause-closes
returns-clause-closes g c = closes g.S.Semiring.operations g.S.Semiring.laws g.D.Direction.way g.met.D.Direction.laws

pub returns-clause-opens : goal.returns-clause-opens
returns-clause-opens g c = opens g.S.Semiring.operations g.S.Semiring.laws g.D.Direction.way g.met.D.Direction.laws
