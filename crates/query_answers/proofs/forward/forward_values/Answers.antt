use Rattle.std.proofs.Common.{◌≡◌, ◌+◌, true, [], take, sym, ap, ◌∙◌, subst, arith}
use Rattle.std.proofs.lemmas.List.{take_all}
use Rattle.pushdown_rules.specs.Pushdown.{Pushdown}
use Rattle.forward_value_search.specs.Search.{IsFinished}
use Rattle.value_tails.specs.Tailing.{IsTailed}
use Rattle.weight_tables.specs.Tables.{TablesValue}
use Rattle.walk_pairs.specs.Answering.{IsAnswered}
use Rattle.query_answers.specs.private.Answered.{AreAnswered}
use Rattle.query_answers.proofs.AnsweredLemmas.{next_answered}
use Rattle.query_answers.proofs.FinishedLemmas.{finished_stays, tailed_stays}
use Rattle.query_answers.proofs.forward.forward_values.Goals as goal

pub prepare-requires : goal.prepare-requires
prepare-requires g c =
    let P : Pushdown _ _ _ → Type 0 = λ q. IsFinished g.S.Semiring.operations q c.args.from.now c.in_ok-tables.tables in
    subst P (sym c.in_ok-tables.ensures.system) c.in_ok-tables.ensures.finished

pub loop-to-init : goal.loop-to-init
loop-to-init g c =
    let operations = g.S.Semiring.operations in
    let from = c.args.from.now in
    let before = c.in_ok-tables.ensures.system in
    let same = c.in_ok-prepare.ensures.system in
    let P : Pushdown _ _ _ → Type 0 = λ q. IsFinished operations q from c.prepare.new.tables in
    let Q : Pushdown _ _ _ → Type 0 = λ q. c.share_tails-by_tails.result ≡ true → IsTailed (operations q.semiring) from c.prepare.new.tables in (
      same ∙ before,
      subst P before c.in_ok-prepare.ensures.finished,
      subst Q (sym same) c.in_ok-prepare.ensures.tails,
      subst (AreAnswered operations c.args.system.now from []) (sym c.new-values.ensures.items) tt,
    )

pub value_to-requires-clause-finished : goal.value_to-requires-clause-finished
value_to-requires-clause-finished g c =
    let P : Pushdown _ _ _ → Type 0 = λ q. IsFinished g.S.Semiring.operations q c.args.from.now c.loop-to.tables in
    subst P (sym c.loop-to.invariant.0) c.loop-to.invariant.1

pub loop-to-preserved : goal.loop-to-preserved
loop-to-preserved g c =
    let operations = g.S.Semiring.operations in
    let p = c.args.system.now in
    let from = c.args.from.now in
    let tos = c.args.tos.now in
    let i = c.loop-to.to-index in
    let v = c.in_ok-value_to.field-0 in
    let same = c.loop-to.invariant.0 in
    let walked = c.in_ok-value_to.ensures.others in
    let A : Pushdown _ _ _ → Type 0 = λ q. IsAnswered (operations q.semiring) q from c.to-item.result v in
    let one = subst (λ t. IsAnswered (operations p.semiring) p from t v) c.to-item.is (subst A same c.in_ok-value_to.ensures.answer) in (
      ap (λ (u : TablesValue _ _ _). u.system) walked ∙ same,
      finished_stays operations p from c.loop-to.tables c.value_to.new.tables walked c.loop-to.invariant.1,
      λ by_tails. tailed_stays operations from c.loop-to.tables c.value_to.new.tables walked (c.loop-to.invariant.2 by_tails),
      subst (AreAnswered operations p from (take (i + 1) tos)) (sym c.in_ok-push.ensures.items)
          (next_answered operations p from tos i c.to-item.result c.loop-to.values.items v c.loop-to-test.true c.loop-to.invariant.3 one),
    )

pub returns : goal.returns
returns g c =
    let tos = c.args.tos.now in
    let i = c.loop-to.to-index in
    subst (λ xs. AreAnswered g.S.Semiring.operations c.args.system.now c.args.from.now xs c.loop-to.values.items) (take_all i tos (omega (arith, c.loop-to-test.false))) c.loop-to.invariant.3
