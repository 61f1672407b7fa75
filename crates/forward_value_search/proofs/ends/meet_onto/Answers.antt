use Rattle.std.proofs.Common.{◌∙◌}
use Rattle.std.specs.Prelude.{Some}
use Rattle.pushdown_rules.specs.Rows.{goes_onto}
use Rattle.pushdown_rules.proofs.CallerLemmas.{onto_goes_on}
use Rattle.forward_value_search.proofs.MeetLemmas.{RulesReturned}
use Rattle.forward_value_search.proofs.RuleLoopLemmas.{rules_start, rules_at, rules_within, rules_go_on, rules_end, rules_smaller}
use Rattle.forward_value_search.proofs.GiveLemmas.{returned_later, enters_by}
use Rattle.forward_value_search.proofs.ends.meet_onto.Goals as goal

pub rules-init : goal.rules-init
rules-init g c =
    rules_start c.semiring-semiring.ensures.valid (g.S.Semiring.laws c.args.system.now.semiring) c.args.first.now (goes_onto c.args.to c.args.top)
    (RulesReturned g.S.Semiring.operations c.args.system.now c.args.first.now c.args.end) c.args.tables.now c.requires.ready (Some c.args.number) c.requires.onto

pub meet_calls-requires-clause-rule : goal.meet_calls-requires-clause-rule
meet_calls-requires-clause-rule g c =
    rules_within c.semiring-semiring.ensures.valid (g.S.Semiring.laws c.args.system.now.semiring) c.args.first.now (goes_onto c.args.to c.args.top)
    (RulesReturned g.S.Semiring.operations c.args.system.now c.args.first.now c.args.end) c.args.tables.now c.requires.ready c.rules.tables c.rules.at c.rules.invariant c.in-Some.k c.in-Some.is

pub meet_calls-requires-clause-ready : goal.meet_calls-requires-clause-ready
meet_calls-requires-clause-ready g c = c.rules.invariant.onward.ready

pub meet_calls-requires-clause-entry : goal.meet_calls-requires-clause-entry
meet_calls-requires-clause-entry g c = c.rules.invariant.onward.numbers c.args.t c.args.end c.requires.entry

pub meet_calls-requires-clause-enters : goal.meet_calls-requires-clause-enters
meet_calls-requires-clause-enters g c =
    let found = rules_at c.semiring-semiring.ensures.valid (g.S.Semiring.laws c.args.system.now.semiring) c.args.first.now (goes_onto c.args.to c.args.top)
    (RulesReturned g.S.Semiring.operations c.args.system.now c.args.first.now c.args.end) c.args.tables.now c.requires.ready c.rules.tables c.rules.at c.rules.invariant c.in-Some.k c.in-Some.is in
    enters_by g.S.Semiring.operations c.args.system.now c.args.first.now c.args.to c.args.top c.args.number c.args.end.to c.requires.number c.requires.onto c.in-Some.k found.item found.there found.passes

pub rules-preserved : goal.rules-preserved
rules-preserved g c =
    let valid = c.semiring-semiring.ensures.valid in
    let laws = g.S.Semiring.laws c.args.system.now.semiring in
    let first = c.args.first.now in
    let now = c.rules.tables in
    let new = c.meet_calls.new.tables in
    let loop = c.rules.invariant in
    let onward = c.in_ok-meet_calls.ensures.onward in
    let found = rules_at valid laws first (goes_onto c.args.to c.args.top) (RulesReturned g.S.Semiring.operations c.args.system.now first c.args.end) c.args.tables.now c.requires.ready now c.rules.at loop c.in-Some.k c.in-Some.is in
    rules_go_on valid laws first (goes_onto c.args.to c.args.top) (RulesReturned g.S.Semiring.operations c.args.system.now first c.args.end) c.args.tables.now c.requires.ready now c.rules.at loop c.in-Some.k c.in-Some.is new onward
    c.next_onto-at.result (c.next_onto-at.ensures ∙ onto_goes_on c.args.system.now.rules c.in-Some.k found.item found.there c.args.to c.args.top found.passes)
    (λ j r there met. returned_later valid laws first now new loop.onward.ready onward j c.args.end met) (λ r there. c.in_ok-meet_calls.ensures.met)

pub rules-smaller : goal.rules-smaller
rules-smaller g c =
    let valid = c.semiring-semiring.ensures.valid in
    let laws = g.S.Semiring.laws c.args.system.now.semiring in
    let first = c.args.first.now in
    let now = c.rules.tables in
    let found = rules_at valid laws first (goes_onto c.args.to c.args.top) (RulesReturned g.S.Semiring.operations c.args.system.now first c.args.end) c.args.tables.now c.requires.ready now c.rules.at c.rules.invariant c.in-Some.k
    c.in-Some.is in
    rules_smaller valid laws first (goes_onto c.args.to c.args.top) (RulesReturned g.S.Semiring.operations c.args.system.now first c.args.end) c.args.tables.now c.requires.ready now c.rules.at c.rules.invariant c.in-Some.k c.in-Some.is
    c.next_onto-at.result (c.next_onto-at.ensures ∙ onto_goes_on c.args.system.now.rules c.in-Some.k found.item found.there c.args.to c.args.top found.passes)

pub returns-clause-onward : goal.returns-clause-onward
returns-clause-onward g c = c.rules.invariant.onward

pub returns-clause-met : goal.returns-clause-met
returns-clause-met g c =
    rules_end c.semiring-semiring.ensures.valid (g.S.Semiring.laws c.args.system.now.semiring) c.args.first.now (goes_onto c.args.to c.args.top)
    (RulesReturned g.S.Semiring.operations c.args.system.now c.args.first.now c.args.end) c.args.tables.now c.requires.ready c.rules.tables c.rules.at c.rules.invariant c.in_default.is
