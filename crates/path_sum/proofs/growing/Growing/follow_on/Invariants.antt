use Rattle.std.proofs.Common.{◌≡◌, ◌+◌, drop}
use Rattle.path_sum.specs.private.Growing.{IsReady, state_of}
use Rattle.path_sum.specs.Sums.{ways_of, pair_place, grow}
use Rattle.path_sum.specs.private.Work.{on_moves, HaveMoves}
use Rattle.path_sum.proofs.growing.Growing.follow_on.Given as goal

abbrev pub invariant-loop-item : goal.invariant-loop-item
invariant-loop-item g l =
    let s = g.S.Semiring.operations l.input.semiring in
    let ways = ways_of l.input.pattern in
    let x = l.transition.place in
    let left = on_moves l.i l.symbol x (l.item + 1) (drop l.item l.input.pattern.items) in
    (grow s l.input.side l.input.opening l.input.transitions ways (state_of l.self) left
    ≡ grow s l.input.side l.input.opening l.input.transitions ways (state_of l.initial.self) (on_moves l.i l.symbol x (l.i + 1) (drop l.i l.input.pattern.items)))
    × HaveMoves ways.edges l.i l.symbol x left
    × IsReady s l.input.transitions l.number (pair_place l.i x.from) (state_of l.self)
    × (l.self.nodes.graph ≡ l.initial.self.nodes.graph)
