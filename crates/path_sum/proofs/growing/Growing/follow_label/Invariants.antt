use Rattle.std.proofs.Common.{◌≡◌, List, length}
use Rattle.std.specs.Prelude.{Some}
use Rattle.weighted_automata.specs.declared.place.Label.TheVariants.{Empty}
use Rattle.weighted_automata.specs.Entries.{is_from}
use Rattle.pushdown_rules.proofs.CallerLemmas.{by_number}
use Rattle.direction_parts.specs.Merges.{lower_of}
use Rattle.direction_parts.proofs.CallerLemmas.{IsFork, to_go}
use Rattle.path_sum.specs.private.Growing.{IsReady, state_of}
use Rattle.path_sum.specs.Sums.{ways_of, pair_place, Move, grow}
use Rattle.path_sum.proofs.ReadLemmas.{one_by}
use Rattle.path_sum.proofs.growing.Growing.follow_label.Given as goal

abbrev pub invariant-rows : goal.invariant-rows
invariant-rows g l =
    let s = g.S.Semiring.operations l.input.semiring in
    let ways = ways_of l.input.pattern in
    let ts = l.transitions.transitions in
    let f = one_by l.input.opening ways l.i l.state in
    ((made : List Move)
    × IsFork (is_from l.state l.fn.label) (is_from l.state Empty) f ts (by_number f 0 ts) made l.reading l.empty
    × (grow s l.input.side l.input.opening l.input.transitions ways (state_of l.initial.self) made ≡ Some (state_of l.self)))
    × IsReady s l.input.transitions l.number (pair_place l.i l.state) (state_of l.self)
    × (l.self.nodes.graph ≡ l.initial.self.nodes.graph)

abbrev pub decreases-rows : goal.decreases-rows
decreases-rows g l = to_go (length l.transitions.transitions) (lower_of l.reading l.empty)
