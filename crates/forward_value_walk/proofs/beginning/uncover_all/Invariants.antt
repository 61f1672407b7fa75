use Rattle.std.proofs.Common.{ℕ, ◌<◌}
use Rattle.forward_value_walk.specs.private.Going.{IsGoneOn, IsUncovered}
use Rattle.forward_value_walk.proofs.beginning.uncover_all.Given as goal

abbrev pub invariant-loop-item : goal.invariant-loop-item
invariant-loop-item g l =
    let v = l.initial.tables in
    let s = g.S.Semiring.operations v.system.semiring in
    IsGoneOn s l.first l.wanted v l.tables × ((i : ℕ) → i < l.item → IsUncovered s l.wanted v i l.tables.walk)
