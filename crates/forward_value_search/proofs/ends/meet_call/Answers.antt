use Rattle.std.proofs.Common.{◌∙◌, sym}
use Rattle.std.proofs.lemmas.Option.{slice_get_within}
use Rattle.forward_value_search.proofs.OnwardLemmas.{onward_itself, waiting_counts}
use Rattle.forward_value_search.proofs.MeetLemmas.{call_counts_nothing, call_sums, call_met}
use Rattle.forward_value_search.proofs.ends.meet_call.Goals as goal

pub waits-requires : goal.waits-requires
waits-requires g c = slice_get_within c.args.tables.now.base c.args.t c.requires.row.0 c.requires.row.1

pub returns-then-waits-clause-onward : goal.returns-then-waits-clause-onward
returns-then-waits-clause-onward g c = onward_itself c.semiring-semiring.ensures.valid (g.S.Semiring.laws c.args.system.now.semiring) c.args.first.now c.args.tables.now c.requires.ready

pub returns-then-waits-clause-met : goal.returns-then-waits-clause-met
returns-then-waits-clause-met g c =
    let valid = c.semiring-semiring.ensures.valid in
    let laws = g.S.Semiring.laws c.args.system.now.semiring in
    let is = c.requires.returns in
    let row = c.requires.row in
    call_counts_nothing valid laws c.args.first.now c.args.k is.rule is.there is.top c.args.below is.right c.args.tables.now c.requires.ready c.args.row c.args.end
    (waiting_counts valid laws c.args.first.now c.args.tables.now c.requires.ready c.args.t c.args.row row.0 row.1 row.2 (sym (c.waits.ensures row.0 row.1) ∙ c.if-waits.true))

pub give_after-requires-clause-sums : goal.give_after-requires-clause-sums
give_after-requires-clause-sums g c =
    call_sums c.semiring-semiring.ensures.valid (g.S.Semiring.laws c.args.system.now.semiring) c.args.first.now c.args.tables.now c.requires.ready c.args.k c.args.below c.args.end c.requires.returns c.requires.held c.args.row
    c.requires.head

pub returns-clause-met : goal.returns-clause-met
returns-clause-met g c =
    call_met c.semiring-semiring.ensures.valid (g.S.Semiring.laws c.args.system.now.semiring) c.args.first.now c.args.tables.now c.requires.ready c.args.k c.args.below c.args.end c.requires.returns c.requires.held c.args.row
    c.requires.head c.give_after.new.tables c.in_ok-give_after.ensures.onward c.in_ok-give_after.ensures.hand c.in_ok-give_after.ensures.given
