use Rattle.std.proofs.Common.{◌≡◌}
use Rattle.weight_tables.specs.Turns.{turns_left}
use Rattle.value_tails.specs.private.Steps.{IsLinkedUp, IsTailing, IsTailedOver}
use Rattle.value_tails.proofs.making.make_tails.Given as goal

abbrev pub invariant-turns : goal.invariant-turns
invariant-turns g l =
    let v = l.initial.tables in
    let s = g.S.Semiring.operations v.system.semiring in
    IsTailedOver v l.tables × IsTailing s l.first l.tables

abbrev pub decreases-turns : goal.decreases-turns
decreases-turns g l = turns_left (g.S.Semiring.operations l.initial.tables.system.semiring) l.tables.target
