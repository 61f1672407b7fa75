use Rattle.std.proofs.Common.{◌≡◌, ◌+◌, ◌-◌, ◌≤◌, ◌++◌, length, take, drop, sym, ap, ◌∙◌, subst, arith}
use Rattle.std.proofs.Math.Seq.{take-add}
use Rattle.std.proofs.lemmas.List.{length-drop}
use Rattle.query_answers.specs.private.Answered.{AreAnswered}
use Rattle.query_answers.proofs.AnsweredLemmas.{all_given, both_answered}
use Rattle.query_answers.proofs.joint.joint_values.Goals as goal

pub loop-place-preserved : goal.loop-place-preserved
loop-place-preserved g c =
    let operations = g.S.Semiring.operations in
    let p = c.args.system.now in
    let from = c.args.from.now in
    let tos = c.args.tos.now in
    let place = c.loop-place.place in
    let n = c.group_len.result in
    let values = c.loop-place.values.items in
    let found = c.in_ok-found.found in
    let ran = c.in_ok-extend.ensures.ran in
    let given : ran.1 ≡ found.items = all_given ran.0 ran.1 found.items ran.2.0 (ran.2.1 ∙ found.ok.0) ran.4 in
    let long : c.extend.new.self.items ≡ values ++ found.items = ran.3.0 ∙ ap (λ xs. values ++ xs) given in
    let count : place + n - place ≡ n = omega arith in
    let group = subst (λ k. AreAnswered operations p from (take k (drop place tos)) found.items) count c.in_ok-found.ensures in
    let both = both_answered operations p from (take place tos) (take n (drop place tos)) values found.items c.loop-place.invariant.1 group in
    let grown = subst (λ xs. AreAnswered operations p from xs (values ++ found.items)) (sym (take-add place n tos)) both in
    let within : place + n ≤ length tos = omega (arith, c.group_len.ensures.within, length-drop place tos, c.loop-place.invariant.0) in
    (within, subst (AreAnswered operations p from (take (place + n) tos)) (sym long) grown)
