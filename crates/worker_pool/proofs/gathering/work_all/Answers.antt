use Rattle.worker_pool.proofs.ErrandLemmas.{first_in}
use Rattle.worker_pool.proofs.gathering.work_all.Goals as goal

pub run_and_join-pass-requires-clause-first : goal.run_and_join-pass-requires-clause-first
run_and_join-pass-requires-clause-first g c = λ κs outlives.
    (c.args.pass.seat.me.0.base, first_in (λ e. e.pass) c.deref_mut.result.now c.in_ok-errands.errands.items c.args.pass.seat.me.0.base c.args.workers c.deref_mut.ensures.value c.in_ok-errands.ensures.first)

pub returns-clause-first : goal.returns-clause-first
returns-clause-first g c = c.run_and_join-pass.ensures.first c.args.pass.seat.me.0.base
    (first_in (λ e. e.pass) c.deref_mut.result.now c.in_ok-errands.errands.items c.args.pass.seat.me.0.base c.args.workers c.deref_mut.ensures.value c.in_ok-errands.ensures.first)
