use Rattle.std.proofs.Common.{◌<◌, ◌∙◌, sym, ap, subst}
use Rattle.std.proofs.lemmas.Result.{IfOk-weaker}
use Rattle.pattern_openings.specs.JointOpenings.{joint_edges, edges_alone}
use Rattle.path_sum.specs.Values.{AreValuesTo}
use Rattle.prestar_laws.specs.Ways.{pre_way}
use Rattle.pushdown_rules.specs.Pushdown.{Pushdown}
use Rattle.saturation_laws.specs.declared.opening.Opening.{Opening}
use Rattle.query_answers.proofs.JointLemmas.{tos_low}
use Rattle.query_answers.proofs.joint.group_values.Goals as goal

pub joint_pre_opening-requires-clause-controls : goal.joint_pre_opening-requires-clause-controls
joint_pre_opening-requires-clause-controls g c =
    tos_low c.args.system.now.controls c.args.system.now.symbols c.args.tos.now c.requires.tos

pub sums-requires-clause-bare : goal.sums-requires-clause-bare
sums-requires-clause-bare g c = ap (λ (o : Opening). o.finals) (c.in_ok-book.ensures.base.opening ∙ c.in_ok-opened.ensures.opening)

pub sums-requires-clause-from : goal.sums-requires-clause-from
sums-requires-clause-from g c =
    subst (λ (q : Pushdown _ _ _). c.args.from.now.control < q.controls) (sym (c.in_ok-book.ensures.base.system ∙ c.in_ok-opened.ensures.system)) c.requires.from

pub returns : goal.returns
returns g c =
    let operations = g.S.Semiring.operations in
    let way = pre_way operations in
    let p = c.args.system.now in
    let from = c.args.from.now in
    let tos = c.args.tos.now in
    let b = c.in_ok-book.book in
    let system = c.in_ok-book.ensures.base.system ∙ c.in_ok-opened.ensures.system in
    let opening = c.in_ok-book.ensures.base.opening ∙ c.in_ok-opened.ensures.opening in
    let finals = c.deref.ensures.value ∙ c.in_ok-opened.ensures.finals in
    IfOk-weaker c.sums.result _ _ (λ vs are.
    let of_system = subst (λ q. AreValuesTo operations way q b.direction b.opening from c.deref.result.now vs.items) system are in
    let of_opening = subst (λ o. AreValuesTo operations way p b.direction o from c.deref.result.now vs.items) opening of_system in
    let all = subst (λ sets. AreValuesTo operations way p b.direction (edges_alone (joint_edges p.controls tos)) from sets vs.items) finals of_opening in
    c.walks_answer.ensures p from tos b.direction vs.items c.requires.tos all)
    c.sums.ensures
