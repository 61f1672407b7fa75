use Rattle.std.proofs.Common.{◌≡◌, ℕ, drop}
use Rattle.key_rows.specs.Rows.{index_from}
use Rattle.weighted_automata.specs.Entries.{is_out_of}
use Rattle.path_sum.specs.private.Growing.{IsReady, state_of}
use Rattle.path_sum.specs.Sums.{ways_of, pair_place, grow}
use Rattle.path_sum.specs.private.Work.{pair_moves}
use Rattle.path_sum.proofs.RowLemmas.{row_rest}
use Rattle.path_sum.proofs.growing.Growing.follow_row.Given as goal

abbrev pub invariant-loop-at : goal.invariant-loop-at
invariant-loop-at g l =
    let s = g.S.Semiring.operations l.input.semiring in
    let ways = ways_of l.input.pattern in
    let ts = l.transitions.transitions in
    ((n : ℕ) × (l.at ≡ index_from (is_out_of l.state) n ts)
    × (grow s l.input.side l.input.opening l.input.transitions ways (state_of l.self) (pair_moves l.input.opening ways l.i l.state (drop n ts))
    ≡ grow s l.input.side l.input.opening l.input.transitions ways (state_of l.initial.self) (pair_moves l.input.opening ways l.i l.state ts)))
    × IsReady s l.input.transitions l.number (pair_place l.i l.state) (state_of l.self)
    × (l.self.nodes.graph ≡ l.initial.self.nodes.graph)

abbrev pub decreases-loop-at : goal.decreases-loop-at
decreases-loop-at g l = row_rest l.transitions.transitions l.at
