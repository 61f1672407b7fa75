use Rattle.worker_pool.proofs.ErrandLemmas.{ok_alone}
use Rattle.worker_pool.proofs.saturating.saturate.Goals as goal

pub returns-then-workers-eq1-clause-seats : goal.returns-then-workers-eq1-clause-seats
returns-then-workers-eq1-clause-seats g c = ok_alone c.saturate_alone.result c.args.workers (λ b. b.journal) c.if-workers-eq1.true c.saturate_alone.ensures.alone
