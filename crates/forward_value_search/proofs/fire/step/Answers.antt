use Rattle.std.proofs.Common.{refl}
use Rattle.std.proofs.lemmas.Option.{slice_get_within}
use Rattle.forward_value_search.proofs.MeetLemmas.{rule_within}
use Rattle.forward_value_search.proofs.StepLemmas.{stepped_hand, step_onward, step_sums, step_then, step_given}
use Rattle.forward_value_search.proofs.fire.step.Goals as goal

pub hold_then_rule-requires-clause-entry : goal.hold_then_rule-requires-clause-entry
hold_then_rule-requires-clause-entry g c = slice_get_within c.args.tables.now.base c.args.t c.requires.entry.0 c.requires.entry.1

pub hold_then_rule-requires-clause-rule : goal.hold_then_rule-requires-clause-rule
hold_then_rule-requires-clause-rule g c =
    rule_within c.semiring-semiring.ensures.valid (g.S.Semiring.laws c.args.system.now.semiring) c.args.first.now c.args.tables.now c.args.tables.now c.requires.ready refl c.args.k c.requires.rule

pub give-requires-clause-ready : goal.give-requires-clause-ready
give-requires-clause-ready g c =
    let valid = c.semiring-semiring.ensures.valid in
    let laws = g.S.Semiring.laws c.args.system.now.semiring in
    let r = c.rule.result.now in
    let there = c.rule.ensures.rule in
    let v = c.args.tables.now in
    let one = c.hold_then_rule.new.self in
    let is = stepped_hand valid laws c.args.first.now v one c.requires.ready c.args.k r there c.args.t c.args.row c.requires.entry c.in_ok-hold_then_rule.ensures.ok in
    (step_onward valid laws c.args.first.now v one c.requires.ready c.args.k r there c.args.row is).ready

pub give-requires-clause-sums : goal.give-requires-clause-sums
give-requires-clause-sums g c =
    let valid = c.semiring-semiring.ensures.valid in
    let laws = g.S.Semiring.laws c.args.system.now.semiring in
    let r = c.rule.result.now in
    let there = c.rule.ensures.rule in
    let v = c.args.tables.now in
    let one = c.hold_then_rule.new.self in
    let is = stepped_hand valid laws c.args.first.now v one c.requires.ready c.args.k r there c.args.t c.args.row c.requires.entry c.in_ok-hold_then_rule.ensures.ok in
    step_sums valid laws c.args.first.now v one c.requires.ready c.args.k r there c.args.row is (c.requires.head r there) (c.requires.few r there) c.args.label (c.requires.label r there)

pub returns-clause-onward : goal.returns-clause-onward
returns-clause-onward g c =
    let valid = c.semiring-semiring.ensures.valid in
    let laws = g.S.Semiring.laws c.args.system.now.semiring in
    let r = c.rule.result.now in
    let there = c.rule.ensures.rule in
    let v = c.args.tables.now in
    let one = c.hold_then_rule.new.self in
    let is = stepped_hand valid laws c.args.first.now v one c.requires.ready c.args.k r there c.args.t c.args.row c.requires.entry c.in_ok-hold_then_rule.ensures.ok in
    step_then valid laws c.args.first.now v one c.requires.ready c.args.k r there c.args.row is c.give.new.tables c.in_ok-give.ensures.onward

pub returns-clause-gives : goal.returns-clause-gives
returns-clause-gives g c =
    let valid = c.semiring-semiring.ensures.valid in
    let laws = g.S.Semiring.laws c.args.system.now.semiring in
    let r = c.rule.result.now in
    let there = c.rule.ensures.rule in
    let v = c.args.tables.now in
    let one = c.hold_then_rule.new.self in
    let is = stepped_hand valid laws c.args.first.now v one c.requires.ready c.args.k r there c.args.t c.args.row c.requires.entry c.in_ok-hold_then_rule.ensures.ok in
    step_given valid laws c.args.first.now v one c.requires.ready c.args.k r there c.args.row is c.give.new.tables c.in_ok-give.ensures.onward (c.requires.head r there) (c.requires.few r there) c.args.label (c.requires.label r there)
    c.in_ok-give.ensures.given
