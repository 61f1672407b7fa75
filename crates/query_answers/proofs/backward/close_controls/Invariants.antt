use Rattle.std.proofs.Common.{◌≡◌}
use Rattle.weight_tables.specs.Turns.{turns_left}
use Rattle.value_search.specs.Finds.{FindsPops}
use Rattle.query_answers.proofs.backward.close_controls.Given as goal

abbrev pub invariant-turns : goal.invariant-turns
invariant-turns g l = (l.tables.system ≡ l.system) × FindsPops (g.S.Semiring.operations l.system.semiring) l.system l.tables

abbrev pub decreases-turns : goal.decreases-turns
decreases-turns g l = turns_left (g.S.Semiring.operations l.system.semiring) l.tables.base
