use Rattle.value_laws.proofs.WalkLemmas.{begin_sums, fall_sums, enter_sums, read_sums, meet_sums, end_sums}
use Rattle.value_laws.proofs.laws.walk_steps_make_sums.Goals as goal

pub returns-clause-begins : goal.returns-clause-begins
returns-clause-begins g c = λ p from valid. begin_sums valid (g.S.Semiring.laws p.semiring) from from

pub returns-clause-falls : goal.returns-clause-falls
returns-clause-falls g c = λ p from i h j x q v w valid edge one two. fall_sums valid (g.S.Semiring.laws p.semiring) from from i h j edge x q v w one two

pub returns-clause-goes_in : goal.returns-clause-goes_in
returns-clause-goes_in g c = λ p from to i h j x a v w valid edge one two. enter_sums valid (g.S.Semiring.laws p.semiring) from to i h j edge x a v w one two

pub returns-clause-reads : goal.returns-clause-reads
returns-clause-reads g c = λ p from to i h j a b w valid edge edge' sums. read_sums valid (g.S.Semiring.laws p.semiring) from to i h j edge a b edge' w sums

pub returns-clause-meets : goal.returns-clause-meets
returns-clause-meets g c = λ p from to i w valid sums. meet_sums valid (g.S.Semiring.laws p.semiring) from to i w sums

pub returns-clause-ends : goal.returns-clause-ends
returns-clause-ends g c = λ p from to i a w valid final final' sums. end_sums valid (g.S.Semiring.laws p.semiring) from to i a final final' w sums
