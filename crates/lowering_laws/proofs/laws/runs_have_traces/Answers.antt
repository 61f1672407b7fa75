use Rattle.std.proofs.Common.{◌∷◌}
use Rattle.lowering_laws.proofs.ReachingLemmas.{traced}
use Rattle.lowering_laws.proofs.laws.runs_have_traces.Goals as goal

pub returns : goal.returns
returns g c = λ p system relates slots lawful valid means low run d goes feasible.
    let trace = traced low lawful valid (g.S.Semiring.laws system.semiring) means run d goes feasible in
    (trace.state ∷ trace.later, (trace.start, trace.follow), trace.trace)
