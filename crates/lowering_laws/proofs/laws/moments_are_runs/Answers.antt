use Rattle.lowering_laws.proofs.MomentLemmas.{moments_run, moments_found}
use Rattle.lowering_laws.proofs.laws.moments_are_runs.Goals as goal

pub returns-clause-states : goal.returns-clause-states
returns-clause-states g c = λ p system relates slots read lawful valid means low run d goes m later none moments.
    (moments_run low read lawful valid (g.S.Semiring.laws system.semiring) means run d goes m later none moments).0

pub returns-clause-trace : goal.returns-clause-trace
returns-clause-trace g c = λ p system relates slots read lawful valid means low run d goes m later none moments.
    (moments_run low read lawful valid (g.S.Semiring.laws system.semiring) means run d goes m later none moments).1

pub returns-clause-found : goal.returns-clause-found
returns-clause-found g c = λ p system relates slots read lawful valid means low run feasible.
    moments_found low read lawful valid (g.S.Semiring.laws system.semiring) means run feasible
