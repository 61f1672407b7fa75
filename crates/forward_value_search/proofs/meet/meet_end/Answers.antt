use Rattle.std.proofs.Common.{◌∙◌, sym, refl}
use Rattle.std.proofs.lemmas.Option.{slice_get_within}
use Rattle.weighted_automata.specs.declared.place.Label.TheVariants.{Empty}
use Rattle.forward_value_search.specs.Places.{arrow}
use Rattle.forward_value_search.proofs.OnwardLemmas.{onward_itself, waiting_counts}
use Rattle.forward_value_search.proofs.MeetLemmas.{rule_within, returned_hand, end_counts_nothing, end_onward, end_row, end_sums, end_then, end_met}
use Rattle.forward_value_search.proofs.meet.meet_end.Goals as goal

pub waits-requires : goal.waits-requires
waits-requires g c = slice_get_within c.args.tables.now.base c.args.end c.requires.end.0 c.requires.end.1

pub returns-then-waits-clause-onward : goal.returns-then-waits-clause-onward
returns-then-waits-clause-onward g c = onward_itself c.semiring-semiring.ensures.valid (g.S.Semiring.laws c.args.system.now.semiring) c.args.first.now c.args.tables.now c.requires.ready

pub returns-then-waits-clause-met : goal.returns-then-waits-clause-met
returns-then-waits-clause-met g c =
    let valid = c.semiring-semiring.ensures.valid in
    let laws = g.S.Semiring.laws c.args.system.now.semiring in
    let call = c.requires.call in
    let end = c.requires.end in
    let at = arrow c.args.from Empty c.args.callee in
    end_counts_nothing valid laws c.args.first.now c.args.k call.rule call.there call.top c.args.below call.right c.args.tables.now c.requires.ready c.args.row at
    (waiting_counts valid laws c.args.first.now c.args.tables.now c.requires.ready c.args.end at end.0 end.1 end.2 (sym (c.waits.ensures end.0 end.1) ∙ c.if-waits.true))

pub hold_rule_then-requires-clause-rule : goal.hold_rule_then-requires-clause-rule
hold_rule_then-requires-clause-rule g c =
    rule_within c.semiring-semiring.ensures.valid (g.S.Semiring.laws c.args.system.now.semiring) c.args.first.now c.args.tables.now c.args.tables.now c.requires.ready refl c.args.k
    (slice_get_within c.args.system.now.rules c.args.k c.requires.call.rule c.requires.call.there)

pub hold_rule_then-requires-clause-entry : goal.hold_rule_then-requires-clause-entry
hold_rule_then-requires-clause-entry g c = slice_get_within c.args.tables.now.base c.args.end c.requires.end.0 c.requires.end.1

pub return_hand-requires : goal.return_hand-requires
return_hand-requires g c =
    rule_within c.semiring-semiring.ensures.valid (g.S.Semiring.laws c.args.system.now.semiring) c.args.first.now c.args.tables.now c.hold_rule_then.new.self c.requires.ready c.hold_rule_then.ensures.system c.args.k
    (slice_get_within c.args.system.now.rules c.args.k c.requires.call.rule c.requires.call.there)

pub give_after-requires-clause-ready : goal.give_after-requires-clause-ready
give_after-requires-clause-ready g c =
    let valid = c.semiring-semiring.ensures.valid in
    let laws = g.S.Semiring.laws c.args.system.now.semiring in
    let first = c.args.first.now in
    let v = c.args.tables.now in
    let call = c.requires.call in
    let at = arrow c.args.from Empty c.args.callee in
    let two = c.return_hand.new.self in
    let is = returned_hand valid laws first v c.hold_rule_then.new.self two c.requires.ready c.args.k call.rule call.there c.args.end at c.requires.end c.in_ok-hold_rule_then.ensures.ok c.in_ok-return_hand.ensures.ok in
    (end_onward valid laws first v two c.requires.ready c.args.k c.args.below c.args.callee c.args.row call c.args.from c.args.t c.requires.row is).ready

pub give_after-requires-clause-entry : goal.give_after-requires-clause-entry
give_after-requires-clause-entry g c =
    let valid = c.semiring-semiring.ensures.valid in
    let laws = g.S.Semiring.laws c.args.system.now.semiring in
    let first = c.args.first.now in
    let v = c.args.tables.now in
    let call = c.requires.call in
    let at = arrow c.args.from Empty c.args.callee in
    let two = c.return_hand.new.self in
    let is = returned_hand valid laws first v c.hold_rule_then.new.self two c.requires.ready c.args.k call.rule call.there c.args.end at c.requires.end c.in_ok-hold_rule_then.ensures.ok c.in_ok-return_hand.ensures.ok in
    end_row valid laws first v two c.requires.ready c.args.k c.args.below c.args.callee c.args.row call c.args.from c.args.t c.requires.row is

pub give_after-requires-clause-sums : goal.give_after-requires-clause-sums
give_after-requires-clause-sums g c =
    let valid = c.semiring-semiring.ensures.valid in
    let laws = g.S.Semiring.laws c.args.system.now.semiring in
    let first = c.args.first.now in
    let v = c.args.tables.now in
    let call = c.requires.call in
    let at = arrow c.args.from Empty c.args.callee in
    let two = c.return_hand.new.self in
    let is = returned_hand valid laws first v c.hold_rule_then.new.self two c.requires.ready c.args.k call.rule call.there c.args.end at c.requires.end c.in_ok-hold_rule_then.ensures.ok c.in_ok-return_hand.ensures.ok in
    end_sums valid laws first v two c.requires.ready c.args.k c.args.below c.args.callee c.args.row call c.args.from c.args.t c.requires.row is

pub returns-clause-onward : goal.returns-clause-onward
returns-clause-onward g c =
    let valid = c.semiring-semiring.ensures.valid in
    let laws = g.S.Semiring.laws c.args.system.now.semiring in
    let first = c.args.first.now in
    let v = c.args.tables.now in
    let call = c.requires.call in
    let at = arrow c.args.from Empty c.args.callee in
    let two = c.return_hand.new.self in
    let is = returned_hand valid laws first v c.hold_rule_then.new.self two c.requires.ready c.args.k call.rule call.there c.args.end at c.requires.end c.in_ok-hold_rule_then.ensures.ok c.in_ok-return_hand.ensures.ok in
    end_then valid laws first v two c.requires.ready c.args.k c.args.below c.args.callee c.args.row call c.args.from c.args.t c.requires.row is c.give_after.new.tables c.in_ok-give_after.ensures.onward c.in_ok-give_after.ensures.given

pub returns-clause-met : goal.returns-clause-met
returns-clause-met g c =
    let valid = c.semiring-semiring.ensures.valid in
    let laws = g.S.Semiring.laws c.args.system.now.semiring in
    let first = c.args.first.now in
    let v = c.args.tables.now in
    let call = c.requires.call in
    let at = arrow c.args.from Empty c.args.callee in
    let two = c.return_hand.new.self in
    let is = returned_hand valid laws first v c.hold_rule_then.new.self two c.requires.ready c.args.k call.rule call.there c.args.end at c.requires.end c.in_ok-hold_rule_then.ensures.ok c.in_ok-return_hand.ensures.ok in
    end_met valid laws first v two c.requires.ready c.args.k c.args.below c.args.callee c.args.row call c.args.from c.args.t c.requires.row is c.give_after.new.tables c.in_ok-give_after.ensures.onward c.in_ok-give_after.ensures.given
