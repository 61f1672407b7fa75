use Rattle.value_laws.proofs.StepLemmas.{pops_done, enters_done}
use Rattle.value_laws.proofs.laws.taken_transitions_are_settled.Goals as goal

pub returns-clause-pops : goal.returns-clause-pops
returns-clause-pops g c = λ p x y z w a b valid fw fa fb back settled met. pops_done valid (g.S.Semiring.laws p.semiring) x y z w fw a b fa fb back settled met

pub returns-clause-enters : goal.returns-clause-enters
returns-clause-enters g c = λ p control edges pops x y z w a b valid fw fp fa fb back settled met. enters_done valid (g.S.Semiring.laws p.semiring) x y z w fw a b fa fb back control edges pops fp settled met
