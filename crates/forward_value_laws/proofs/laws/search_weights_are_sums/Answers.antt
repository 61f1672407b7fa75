use Rattle.pushdown_rules.specs.Values.{value_of}
use Rattle.pushdown_rules.proofs.CallerLemmas.{value_fits}
use Rattle.forward_value_laws.specs.Model.{Comes}
use Rattle.value_laws.proofs.CallerLemmas.{sums_combine}
use Rattle.forward_value_laws.proofs.SoundLemmas.{starts_sum, uncovered_sum, step_sum, entered_sum, return_sum}
use Rattle.forward_value_laws.proofs.laws.search_weights_are_sums.Goals as goal

pub returns-clause-starts : goal.returns-clause-starts
returns-clause-starts g c = λ p start edges valid. starts_sum valid (g.S.Semiring.laws p.semiring) start edges

pub returns-clause-uncovers : goal.returns-clause-uncovers
returns-clause-uncovers g c = λ p start edges q i h j w valid edge sum. uncovered_sum valid (g.S.Semiring.laws p.semiring) start edges q i h j edge w sum

pub returns-clause-steps : goal.returns-clause-steps
returns-clause-steps g c = λ p start edges k r from w valid there few sum. step_sum valid (g.S.Semiring.laws p.semiring) start edges k r there few from w sum

pub returns-clause-enters : goal.returns-clause-enters
returns-clause-enters g c = λ p start edges to h valid. entered_sum valid (g.S.Semiring.laws p.semiring) start edges to h

pub returns-clause-returns : goal.returns-clause-returns
returns-clause-returns g c = λ p start edges k r a b q from v w valid there right first second. return_sum valid (g.S.Semiring.laws p.semiring) start edges k r there a b right q from v w first second

pub returns-clause-combined : goal.returns-clause-combined
returns-clause-combined g c = λ p start edges row from v w valid first second.
    let laws = g.S.Semiring.laws p.semiring in
    sums_combine laws (value_of (g.S.Semiring.operations p.semiring) p) (λ run. value_fits valid laws run) (Comes p start edges row from) v w first second
