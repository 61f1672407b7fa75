use Rattle.std.proofs.Common.{◌+◌, [], take, sym, subst, arith}
use Rattle.std.proofs.lemmas.List.{take_all}
use Rattle.pushdown_rules.specs.Pushdown.{Pushdown}
use Rattle.walk_pairs.specs.Answering.{IsAnswered}
use Rattle.query_answers.specs.private.Closed.{IsClosedOver}
use Rattle.query_answers.specs.private.Answered.{AreAnswered}
use Rattle.query_answers.proofs.AnsweredLemmas.{next_answered}
use Rattle.query_answers.proofs.backward.values_over.Goals as goal

pub value_to-requires : goal.value_to-requires
value_to-requires g c =
    let P : Pushdown _ _ _ → Type 0 = λ q. IsClosedOver g.S.Semiring.operations q c.loop-to.tables in
    (c.type_bounds.sync-G, subst P (sym c.loop-to.invariant.0.system) c.loop-to.invariant.0)

pub loop-to-init : goal.loop-to-init
loop-to-init g c = (c.requires, subst (AreAnswered g.S.Semiring.operations c.args.tables.now.system c.args.from.now []) (sym c.new-values.ensures.items) tt)

pub loop-to-preserved : goal.loop-to-preserved
loop-to-preserved g c =
    let operations = g.S.Semiring.operations in
    let p = c.args.tables.now.system in
    let from = c.args.from.now in
    let tos = c.args.tos.now in
    let i = c.loop-to.to-index in
    let v = c.in_ok-value_to.field-0 in
    let same = c.loop-to.invariant.0.system in
    let P : Pushdown _ _ _ → Type 0 = λ q. IsClosedOver operations q c.value_to.new.tables in
    let A : Pushdown _ _ _ → Type 0 = λ q. IsAnswered (operations q.semiring) q from c.to-item.result v in
    let one = subst (λ t. IsAnswered (operations p.semiring) p from t v) c.to-item.is (subst A same c.in_ok-value_to.ensures.answer) in (
      subst P same c.in_ok-value_to.ensures.closed,
      subst (AreAnswered operations p from (take (i + 1) tos)) (sym c.in_ok-push.ensures.items)
          (next_answered operations p from tos i c.to-item.result c.loop-to.values.items v c.loop-to-test.true c.loop-to.invariant.1 one),
    )

pub returns-clause-values : goal.returns-clause-values
returns-clause-values g c =
    let p = c.args.tables.now.system in
    let tos = c.args.tos.now in
    let i = c.loop-to.to-index in
    subst (λ xs. AreAnswered g.S.Semiring.operations p c.args.from.now xs c.loop-to.values.items) (take_all i tos (omega (arith, c.loop-to-test.false))) c.loop-to.invariant.1
