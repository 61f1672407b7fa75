use Rattle.std.proofs.Common.{◌≡◌}
use Rattle.weight_tables.specs.Turns.{turns_left}
use Rattle.forward_value_search.specs.Search.{IsSearch}
use Rattle.query_answers.proofs.forward.close_from.Given as goal

abbrev pub invariant-turns : goal.invariant-turns
invariant-turns g l = (l.tables.system ≡ l.system) × IsSearch g.S.Semiring.operations l.system l.from l.tables

abbrev pub decreases-turns : goal.decreases-turns
decreases-turns g l = turns_left (g.S.Semiring.operations l.system.semiring) l.tables.base
