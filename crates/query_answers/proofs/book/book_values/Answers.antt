use Rattle.std.proofs.Common.{◌+◌, ◌<◌, [], take, sym, ap, ◌∙◌, subst, arith}
use Rattle.std.proofs.lemmas.List.{take_all}
use Rattle.pushdown_rules.specs.Pushdown.{Pushdown}
use Rattle.pattern_openings.specs.PatternOpenings.{IsOver}
use Rattle.walk_pairs.specs.Answering.{IsAnswered}
use Rattle.query_answers.specs.private.Answered.{AreAnswered}
use Rattle.query_answers.proofs.AnswerLemmas.{forward_answered}
use Rattle.query_answers.proofs.AnsweredLemmas.{next_answered}
use Rattle.query_answers.proofs.book.book_values.Goals as goal

pub sum_value-requires-clause-pattern : goal.sum_value-requires-clause-pattern
sum_value-requires-clause-pattern g c =
    let p = c.args.system.now in
    let i = c.loop-to.to-index in
    let over = subst (IsOver p.controls p.symbols) (sym c.to-item.is) (c.requires.tos i c.to-item.result c.loop-to-test.true) in
    subst (λ (q : Pushdown _ _ _). c.to-item.result.control < q.controls) (sym (c.in_ok-book.ensures.base.system ∙ c.in_ok-opened.ensures.system)) over.control

pub loop-to-init : goal.loop-to-init
loop-to-init g c = subst (AreAnswered g.S.Semiring.operations c.args.system.now c.args.from.now []) (sym c.new-values.ensures.items) tt

pub loop-to-preserved : goal.loop-to-preserved
loop-to-preserved g c =
    let operations = g.S.Semiring.operations in
    let p = c.args.system.now in
    let from = c.args.from.now in
    let tos = c.args.tos.now in
    let i = c.loop-to.to-index in
    let v = c.in_ok-sum_value.field-0 in
    let kept = c.in_ok-book.ensures in
    let begun = c.in_ok-opened.ensures in
    let is = forward_answered operations c.openings_read_members.ensures p c.in_ok-book.book v c.args.workers from c.to-item.result c.in_ok-sum_value.ensures c.requires.from.control
    (record { system = kept.base.system ∙ begun.system; direction = kept.base.direction ∙ ap (λ n. record { items = n }) begun.direction; opening = kept.base.opening ∙ begun.opening; book = kept.book; closed = kept.closed; seats = kept.seats; alone = kept.alone }) in
    let one = subst (λ t. IsAnswered (operations p.semiring) p from t v) c.to-item.is is in
    subst (AreAnswered operations p from (take (i + 1) tos)) (sym c.in_ok-push.ensures.items)
    (next_answered operations p from tos i c.to-item.result c.loop-to.values.items v c.loop-to-test.true c.loop-to.invariant one)

pub returns : goal.returns
returns g c =
    let tos = c.args.tos.now in
    let i = c.loop-to.to-index in
    subst (λ xs. AreAnswered g.S.Semiring.operations c.args.system.now c.args.from.now xs c.loop-to.values.items) (take_all i tos (omega (arith, c.loop-to-test.false))) c.loop-to.invariant
