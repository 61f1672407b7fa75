use Rattle.std.proofs.Common.{length}
use Rattle.pushdown_rules.specs.Rows.{goes_onto}
use Rattle.weight_tables.proofs.CallerLemmas.{to_go}
use Rattle.forward_value_search.proofs.MeetLemmas.{RulesReturned}
use Rattle.forward_value_search.proofs.RuleLoopLemmas.{IsRuleLoop}
use Rattle.forward_value_search.proofs.ends.meet_onto.Given as goal

abbrev pub invariant-rules : goal.invariant-rules
invariant-rules g l =
    IsRuleLoop g.S.Semiring.operations l.system l.first (goes_onto l.to l.top) (RulesReturned g.S.Semiring.operations l.system l.first l.end) l.initial.tables l.tables l.at

abbrev pub decreases-rules : goal.decreases-rules
decreases-rules g l = to_go (length l.system.rules) l.at
