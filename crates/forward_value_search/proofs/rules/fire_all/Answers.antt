use Rattle.std.proofs.Common.{◌∙◌}
use Rattle.pushdown_rules.specs.Rows.{has_head}
use Rattle.pushdown_rules.proofs.CallerLemmas.{with_head_goes_on}
use Rattle.forward_value_search.proofs.MeetLemmas.{RulesGave, given_later}
use Rattle.forward_value_search.proofs.RuleLoopLemmas.{rules_start, rules_at, rules_within, rules_go_on, rules_end, rules_smaller}
use Rattle.forward_value_search.proofs.GiveLemmas.{head_by, row_gives}
use Rattle.forward_value_search.proofs.rules.fire_all.Goals as goal

pub rules-init : goal.rules-init
rules-init g c =
    rules_start c.semiring-semiring.ensures.valid (g.S.Semiring.laws c.args.system.now.semiring) c.args.first.now (has_head c.args.row.from c.args.symbol)
    (RulesGave g.S.Semiring.operations c.args.system.now c.args.first.now c.args.row.to) c.args.tables.now c.requires.ready c.first_with_head-at.result c.first_with_head-at.ensures

pub fire-requires-clause-rule : goal.fire-requires-clause-rule
fire-requires-clause-rule g c =
    rules_within c.semiring-semiring.ensures.valid (g.S.Semiring.laws c.args.system.now.semiring) c.args.first.now (has_head c.args.row.from c.args.symbol)
    (RulesGave g.S.Semiring.operations c.args.system.now c.args.first.now c.args.row.to) c.args.tables.now c.requires.ready c.rules.tables c.rules.at c.rules.invariant c.in-Some.k c.in-Some.is

pub fire-requires-clause-ready : goal.fire-requires-clause-ready
fire-requires-clause-ready g c = c.rules.invariant.onward.ready

pub fire-requires-clause-entry : goal.fire-requires-clause-entry
fire-requires-clause-entry g c = c.rules.invariant.onward.numbers c.args.t c.args.row c.requires.entry

pub fire-requires-clause-head : goal.fire-requires-clause-head
fire-requires-clause-head g c =
    let found = rules_at c.semiring-semiring.ensures.valid (g.S.Semiring.laws c.args.system.now.semiring) c.args.first.now (has_head c.args.row.from c.args.symbol)
    (RulesGave g.S.Semiring.operations c.args.system.now c.args.first.now c.args.row.to) c.args.tables.now c.requires.ready c.rules.tables c.rules.at c.rules.invariant c.in-Some.k c.in-Some.is in
    head_by c.args.system.now c.args.row c.args.symbol c.requires.symbol c.in-Some.k found.item found.there found.passes

pub rules-preserved : goal.rules-preserved
rules-preserved g c =
    let valid = c.semiring-semiring.ensures.valid in
    let laws = g.S.Semiring.laws c.args.system.now.semiring in
    let first = c.args.first.now in
    let now = c.rules.tables in
    let new = c.fire.new.tables in
    let loop = c.rules.invariant in
    let onward = c.in_ok-fire.ensures.onward in
    let found = rules_at valid laws first (has_head c.args.row.from c.args.symbol) (RulesGave g.S.Semiring.operations c.args.system.now first c.args.row.to) c.args.tables.now c.requires.ready now c.rules.at loop c.in-Some.k c.in-Some.is in
    rules_go_on valid laws first (has_head c.args.row.from c.args.symbol) (RulesGave g.S.Semiring.operations c.args.system.now first c.args.row.to) c.args.tables.now c.requires.ready now c.rules.at loop c.in-Some.k c.in-Some.is new onward
    c.next_with_head-at.result (c.next_with_head-at.ensures ∙ with_head_goes_on c.args.system.now.rules c.in-Some.k found.item found.there c.args.row.from c.args.symbol found.passes)
    (λ j r there gives. given_later valid laws first j r there now new loop.onward.ready onward c.args.row.to gives) (λ r there. c.in_ok-fire.ensures.gives r there)

pub rules-smaller : goal.rules-smaller
rules-smaller g c =
    let valid = c.semiring-semiring.ensures.valid in
    let laws = g.S.Semiring.laws c.args.system.now.semiring in
    let first = c.args.first.now in
    let now = c.rules.tables in
    let found = rules_at valid laws first (has_head c.args.row.from c.args.symbol) (RulesGave g.S.Semiring.operations c.args.system.now first c.args.row.to) c.args.tables.now c.requires.ready now c.rules.at c.rules.invariant c.in-Some.k
    c.in-Some.is in
    rules_smaller valid laws first (has_head c.args.row.from c.args.symbol) (RulesGave g.S.Semiring.operations c.args.system.now first c.args.row.to) c.args.tables.now c.requires.ready now c.rules.at c.rules.invariant c.in-Some.k
    c.in-Some.is c.next_with_head-at.result (c.next_with_head-at.ensures ∙ with_head_goes_on c.args.system.now.rules c.in-Some.k found.item found.there c.args.row.from c.args.symbol found.passes)

pub returns-clause-onward : goal.returns-clause-onward
returns-clause-onward g c = c.rules.invariant.onward

pub returns-clause-gives : goal.returns-clause-gives
returns-clause-gives g c =
    row_gives g.S.Semiring.operations c.args.system.now c.args.first.now c.rules.tables c.args.row c.args.symbol c.requires.symbol
    (rules_end c.semiring-semiring.ensures.valid (g.S.Semiring.laws c.args.system.now.semiring) c.args.first.now (has_head c.args.row.from c.args.symbol)
    (RulesGave g.S.Semiring.operations c.args.system.now c.args.first.now c.args.row.to) c.args.tables.now c.requires.ready c.rules.tables c.rules.at c.rules.invariant c.in_default.is)
