use Rattle.weight_tables.specs.Tables.{entries_of}
use Rattle.value_search.proofs.HandLemmas.{first_hand, rule_within}
use Rattle.value_search.proofs.give.hold_first.Goals as goal

pub hold_rule_then-requires-clause-rule : goal.hold_rule_then-requires-clause-rule
hold_rule_then-requires-clause-rule g c = rule_within c.args.tables.now.system c.args.system.now c.requires.same c.args.k c.requires.rule

pub returns-clause-ok : goal.returns-clause-ok
returns-clause-ok g c = first_hand g.S.Semiring.operations c.args.tables.now.system c.args.system.now c.requires.same c.args.k (entries_of c.args.layer c.args.tables.now) c.args.t
    c.args.tables.now c.hold_rule_then.new.self c.in_ok-hold_rule_then.ensures.ok
