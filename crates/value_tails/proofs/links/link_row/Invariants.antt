use Rattle.std.proofs.Common.{length}
use Rattle.pushdown_rules.specs.Rows.{has_head}
use Rattle.weight_tables.proofs.CallerLemmas.{to_go}
use Rattle.value_tails.proofs.LoopLemmas.{IsLinkLoop}
use Rattle.value_tails.proofs.links.link_row.Given as goal

abbrev pub invariant-rules : goal.invariant-rules
invariant-rules g l = IsLinkLoop g.S.Semiring.operations l.first l.fn.tables l.fn.row.to (has_head l.fn.row.from l.fn.symbol) l.tables l.at

abbrev pub decreases-rules : goal.decreases-rules
decreases-rules g l = to_go (length l.fn.tables.system.rules) l.at
