use Rattle.forward_value_laws.proofs.WalkLemmas.{tops_sum, uncovered_top_sum, opens_sum, reads_sum, ends_sum}
use Rattle.forward_value_laws.proofs.laws.walk_weights_are_sums.Goals as goal

pub returns-clause-tops : goal.returns-clause-tops
returns-clause-tops g c = λ p first wanted h j from w valid edge sum. tops_sum valid (g.S.Semiring.laws p.semiring) first wanted h j edge from w sum

pub returns-clause-uncovered : goal.returns-clause-uncovered
returns-clause-uncovered g c = λ p first wanted i w valid sum. uncovered_top_sum valid (g.S.Semiring.laws p.semiring) first wanted i w sum

pub returns-clause-opens : goal.returns-clause-opens
returns-clause-opens g c = λ p first wanted k r a h i j from v w valid there right edge above below.
    opens_sum valid (g.S.Semiring.laws p.semiring) first wanted k r there a h right i j edge from v w above below

pub returns-clause-reads : goal.returns-clause-reads
returns-clause-reads g c = λ p first wanted h i j a b w valid edge edge' sum. reads_sum valid (g.S.Semiring.laws p.semiring) first wanted h i j a b edge edge' w sum

pub returns-clause-ends : goal.returns-clause-ends
returns-clause-ends g c = λ p first wanted j a w valid final final' sum. ends_sum valid (g.S.Semiring.laws p.semiring) first wanted j a final final' w sum
