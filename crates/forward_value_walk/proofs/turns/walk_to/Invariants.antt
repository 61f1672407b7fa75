use Rattle.weight_tables.specs.Turns.{turns_left}
use Rattle.walk_pairs.specs.Answering.{IsWalkedOver}
use Rattle.forward_value_walk.specs.Walking.{is_stop}
use Rattle.forward_value_walk.specs.private.Going.{IsWalking}
use Rattle.forward_value_walk.proofs.turns.walk_to.Given as goal

abbrev pub invariant-turns : goal.invariant-turns
invariant-turns g l =
    let v = l.fn.tables in
    let s = g.S.Semiring.operations v.system.semiring in
    IsWalkedOver v l.tables × IsWalking s l.first l.wanted (is_stop l.stop) l.tables

abbrev pub decreases-turns : goal.decreases-turns
decreases-turns g l = turns_left (g.S.Semiring.operations l.fn.tables.system.semiring) l.tables.walk
