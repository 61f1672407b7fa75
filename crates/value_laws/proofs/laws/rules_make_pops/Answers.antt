use Rattle.value_laws.proofs.WorthLemmas.{pop_sums, step_pops, call_pops}
use Rattle.value_laws.proofs.laws.rules_make_pops.Goals as goal

pub returns-clause-pops : goal.returns-clause-pops
returns-clause-pops g c = λ p k r valid there right. pop_sums valid (g.S.Semiring.laws p.semiring) k r there right

pub returns-clause-steps : goal.returns-clause-steps
returns-clause-steps g c = λ p k r h to w valid there right sums. step_pops valid (g.S.Semiring.laws p.semiring) k r there h right to w sums

pub returns-clause-calls : goal.returns-clause-calls
returns-clause-calls g c = λ p k r f h mid to v w valid there right one two. call_pops valid (g.S.Semiring.laws p.semiring) k r there f h right mid to v w one two
