use Rattle.value_laws.proofs.WorthLemmas.{opening_sums, step_enters, call_enters, open_enters}
use Rattle.value_laws.proofs.laws.rules_make_enters.Goals as goal

pub returns-clause-opens : goal.returns-clause-opens
returns-clause-opens g c = λ p control edges h to valid edge. opening_sums valid (g.S.Semiring.laws p.semiring) control edges h to edge

pub returns-clause-steps : goal.returns-clause-steps
returns-clause-steps g c = λ p control edges k r h to w valid there right sums. step_enters valid (g.S.Semiring.laws p.semiring) k r there h right control edges to w sums

pub returns-clause-calls : goal.returns-clause-calls
returns-clause-calls g c = λ p control edges k r f h mid to v w valid there right one two. call_enters valid (g.S.Semiring.laws p.semiring) k r there f h right control edges mid to v w one two

pub returns-clause-stays : goal.returns-clause-stays
returns-clause-stays g c = λ p control edges k r f h mid to w valid there right edge sums. open_enters valid (g.S.Semiring.laws p.semiring) k r there f h right control edges mid to edge w sums
