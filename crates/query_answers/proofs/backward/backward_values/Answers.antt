use Rattle.std.proofs.Common.{sym, subst}
use Rattle.pushdown_rules.specs.Pushdown.{Pushdown}
use Rattle.query_answers.specs.private.Closed.{IsClosedOver}
use Rattle.query_answers.specs.private.Answered.{AreAnswered}
use Rattle.query_answers.proofs.backward.backward_values.Goals as goal

pub values_over-requires : goal.values_over-requires
values_over-requires g c =
    let is = c.in_ok-tables.ensures.closed in
    let P : Pushdown _ _ _ → Type 0 = λ q. IsClosedOver g.S.Semiring.operations q c.in_ok-tables.tables in
    (c.type_bounds.sync-G, subst P (sym is.system) is)

pub returns-clause-kept : goal.returns-clause-kept
returns-clause-kept g c =
    let P : Pushdown _ _ _ → Type 0 = λ q. IsClosedOver g.S.Semiring.operations q c.values_over.new.tables in
    subst P c.in_ok-tables.ensures.closed.system c.in_ok-values.ensures.closed

pub returns-clause-values : goal.returns-clause-values
returns-clause-values g c =
    let P : Pushdown _ _ _ → Type 0 = λ q. AreAnswered g.S.Semiring.operations q c.args.from.now c.args.tos.now c.in_ok-values.values.items in
    subst P c.in_ok-tables.ensures.closed.system c.in_ok-values.ensures.values
