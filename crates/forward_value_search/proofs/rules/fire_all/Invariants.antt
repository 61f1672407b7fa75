use Rattle.std.proofs.Common.{length}
use Rattle.pushdown_rules.specs.Rows.{has_head}
use Rattle.weight_tables.proofs.CallerLemmas.{to_go}
use Rattle.forward_value_search.proofs.MeetLemmas.{RulesGave}
use Rattle.forward_value_search.proofs.RuleLoopLemmas.{IsRuleLoop}
use Rattle.forward_value_search.proofs.rules.fire_all.Given as goal

abbrev pub invariant-rules : goal.invariant-rules
invariant-rules g l =
    IsRuleLoop g.S.Semiring.operations l.system l.first (has_head l.row.from l.symbol) (RulesGave g.S.Semiring.operations l.system l.first l.row.to) l.initial.tables l.tables l.at

abbrev pub decreases-rules : goal.decreases-rules
decreases-rules g l = to_go (length l.system.rules) l.at
