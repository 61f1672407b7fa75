use Rattle.value_laws.proofs.StepLemmas.{pops_kept, pops_met_kept, enters_kept, enters_met_kept}
use Rattle.value_laws.proofs.laws.settled_weights_stay_settled.Goals as goal

pub returns-clause-pops : goal.returns-clause-pops
returns-clause-pops g c = λ p a b a' b' valid fa fb fa' fb' further settled. pops_kept valid (g.S.Semiring.laws p.semiring) a b a' b' fa fb fa' fb' further settled

pub returns-clause-pops_met : goal.returns-clause-pops_met
returns-clause-pops_met g c = λ p a b a' b' valid fa fb fa' fb' further x y z w fw met. pops_met_kept valid (g.S.Semiring.laws p.semiring) a b a' b' fa fb fa' fb' further x y z w fw met

pub returns-clause-enters : goal.returns-clause-enters
returns-clause-enters g c = λ p control edges pops a b a' b' valid fp fa fb fa' fb' further settled. enters_kept valid (g.S.Semiring.laws p.semiring) a b a' b' fa fb fa' fb' further control edges pops fp settled

pub returns-clause-enters_met : goal.returns-clause-enters_met
returns-clause-enters_met g c = λ p edges pops a b a' b' valid fp fa fb fa' fb' further x y z w fw met. enters_met_kept valid (g.S.Semiring.laws p.semiring) a b a' b' fa fb fa' fb' further 0 edges pops fp x y z w fw met
