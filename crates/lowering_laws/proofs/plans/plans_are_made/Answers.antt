use Rattle.lowering_laws.proofs.MakingLemmas.{plan_more, lowered_more, is_lowering}
use Rattle.lowering_laws.proofs.plans.plans_are_made.Goals as goal

pub returns-clause-lines : goal.returns-clause-lines
returns-clause-lines g c = λ p base is i. plan_more p base is i

pub returns-clause-rules : goal.returns-clause-rules
returns-clause-rules g c = λ n relates slots rs ts r t are is. lowered_more n relates slots rs ts r t are is

pub returns-clause-system : goal.returns-clause-system
returns-clause-system g c = λ p system relates slots one count are. is_lowering relates slots p system one count are
