use Rattle.std.proofs.Common.{sym, subst}
use Rattle.pushdown_rules.specs.Pushdown.{Pushdown}
use Rattle.value_search.specs.Finds.{FindsPops}
use Rattle.query_answers.proofs.backward.value_to.Goals as goal

pub walk-requires-clause-pops : goal.walk-requires-clause-pops
walk-requires-clause-pops g c =
    let new = c.close_to.new.tables in
    let is = c.in_ok-close_to.ensures.closed in
    let P : Pushdown _ _ _ → Type 0 = λ q. FindsPops (g.S.Semiring.operations q.semiring) q new in
    c.closed_pops_are_sums.ensures new.system new c.valid.ensures.system c.valid.ensures.tables (subst P (sym is.system) is.finds) is.closed
