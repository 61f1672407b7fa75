use Rattle.std.proofs.Common.{◌≡◌}
use Rattle.weight_tables.specs.Turns.{turns_left}
use Rattle.value_search.specs.Finds.{FindsEnters}
use Rattle.query_answers.proofs.backward.close_to.Given as goal

abbrev pub invariant-turns : goal.invariant-turns
invariant-turns g l =
    let p = l.fn.tables.system in
    (l.tables.system ≡ p) × (l.tables.base ≡ l.fn.tables.base) × FindsEnters (g.S.Semiring.operations p.semiring) p l.to l.tables

abbrev pub decreases-turns : goal.decreases-turns
decreases-turns g l = turns_left (g.S.Semiring.operations l.fn.tables.system.semiring) l.tables.target
