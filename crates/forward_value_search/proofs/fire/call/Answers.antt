use Rattle.forward_value_search.proofs.OnwardLemmas.{onward_then}
use Rattle.forward_value_search.proofs.StepLemmas.{one_onward, entry_sums, call_number, call_given}
use Rattle.forward_value_search.proofs.fire.call.Goals as goal

pub give-requires-clause-ready : goal.give-requires-clause-ready
give-requires-clause-ready g c =
    (one_onward c.semiring-semiring.ensures.valid (g.S.Semiring.laws c.args.system.now.semiring) c.args.first.now c.args.tables.now c.hold_one.new.self c.requires.ready c.in_ok-hold_one.ensures.ok).ready

pub give-requires-clause-sums : goal.give-requires-clause-sums
give-requires-clause-sums g c =
    let valid = c.semiring-semiring.ensures.valid in
    let laws = g.S.Semiring.laws c.args.system.now.semiring in
    let r = c.rule.result.now in
    let there = c.rule.ensures.rule in
    entry_sums valid laws c.args.first.now c.args.tables.now c.hold_one.new.self c.requires.ready c.args.k r there c.args.top c.args.callee
    (call_number valid laws c.args.first.now c.args.k c.args.below c.args.callee c.args.row c.requires.call r there c.args.top (c.requires.top r there)) c.in_ok-hold_one.ensures.ok

pub meet_ends-requires-clause-ready : goal.meet_ends-requires-clause-ready
meet_ends-requires-clause-ready g c = c.in_ok-give.ensures.onward.ready

pub meet_ends-requires-clause-row : goal.meet_ends-requires-clause-row
meet_ends-requires-clause-row g c =
    let one = one_onward c.semiring-semiring.ensures.valid (g.S.Semiring.laws c.args.system.now.semiring) c.args.first.now c.args.tables.now c.hold_one.new.self c.requires.ready c.in_ok-hold_one.ensures.ok in
    c.in_ok-give.ensures.onward.numbers c.args.t c.args.row (one.numbers c.args.t c.args.row c.requires.entry)

pub returns-clause-onward : goal.returns-clause-onward
returns-clause-onward g c =
    let valid = c.semiring-semiring.ensures.valid in
    let laws = g.S.Semiring.laws c.args.system.now.semiring in
    let first = c.args.first.now in
    let v = c.args.tables.now in
    let one = one_onward valid laws first v c.hold_one.new.self c.requires.ready c.in_ok-hold_one.ensures.ok in
    let two = onward_then valid laws first v c.hold_one.new.self c.give.new.tables c.requires.ready one c.in_ok-give.ensures.onward in
    onward_then valid laws first v c.give.new.tables c.meet_ends.new.tables c.requires.ready two c.in_ok-meet_ends.ensures.onward

pub returns-clause-gives : goal.returns-clause-gives
returns-clause-gives g c =
    let valid = c.semiring-semiring.ensures.valid in
    let laws = g.S.Semiring.laws c.args.system.now.semiring in
    let r = c.rule.result.now in
    let there = c.rule.ensures.rule in
    call_given valid laws c.args.first.now c.args.k c.args.below c.args.callee c.args.row c.requires.call r there c.args.top (c.requires.top r there) c.args.tables.now c.hold_one.new.self c.give.new.tables c.meet_ends.new.tables
    c.requires.ready c.in_ok-hold_one.ensures.ok c.in_ok-give.ensures.onward c.in_ok-give.ensures.given c.in_ok-meet_ends.ensures.onward c.in_ok-meet_ends.ensures.met
