use Rattle.std.proofs.Common.{length}
use Rattle.pushdown_rules.specs.Rows.{goes_onto}
use Rattle.weight_tables.proofs.CallerLemmas.{to_go}
use Rattle.forward_value_walk.proofs.LoopLemmas.{IsCallLoop}
use Rattle.forward_value_walk.proofs.calls.open_onto.Given as goal

abbrev pub invariant-rules : goal.invariant-rules
invariant-rules g l = IsCallLoop g.S.Semiring.operations l.first l.wanted l.fn.tables l.item l.source (goes_onto l.fn.callee.to l.fn.callee.top) l.tables l.at

abbrev pub decreases-rules : goal.decreases-rules
decreases-rules g l = to_go (length l.fn.tables.system.rules) l.at
