use Rattle.worker_pool.proofs.GiveLemmas.{few_takes}
use Rattle.worker_pool.proofs.laws.workers_bound_takes.Goals as goal

pub returns : goal.returns
returns g c = few_takes g.S.Semiring.operations g.S.Semiring.laws g.D.Direction.way g.met.D.Direction.laws
