use Rattle.prestar_laws.proofs.LaterRuleLemmas.{search_takes_rule, rules_still_below}
use Rattle.prestar_laws.proofs.laws.rules_may_come_later.Goals as goal

pub returns-clause-search : goal.returns-clause-search
returns-clause-search g c = λ v r is names rule few. search_takes_rule (g.S.Semiring.operations) (g.S.Semiring.laws) v is names r rule few

pub returns-clause-names : goal.returns-clause-names
returns-clause-names g c = λ v r is names rule few. rules_still_below (g.S.Semiring.operations) (g.S.Semiring.laws) v is names r rule few
