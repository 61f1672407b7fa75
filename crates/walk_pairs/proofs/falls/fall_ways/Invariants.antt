use Rattle.std.proofs.Common.{ℕ, ◌<◌, ◌≤◌}
use Rattle.semiring_laws.specs.Semiring.{Below}
use Rattle.config_patterns.specs.Edges.{edges_of}
use Rattle.weight_tables.specs.Entries.{weight_in}
use Rattle.walk_pairs.specs.Giving.{IsFall, worth_over}
use Rattle.walk_pairs.specs.Lowerings.{ArePairsLowered}
use Rattle.walk_pairs.specs.Pairs.{pair_place}
use Rattle.walk_pairs.specs.Ways.{TakesAt}
use Rattle.walk_pairs.proofs.falls.fall_ways.Given as goal

abbrev pub invariant-loop-next : goal.invariant-loop-next
invariant-loop-next g l =
    let v = l.initial.tables in
    let s = g.S.Semiring.operations v.system.semiring in
    ArePairsLowered s (IsFall s v l.order l.layer l.stage l.from (edges_of l.pattern.items) l.state) v l.tables
    × ((j : ℕ) → l.initial.next ≤ j → j < l.next → (g : ℕ) → TakesAt l.pattern.items j g → (to : ℕ) → Below s (weight_in s l.tables.walk (pair_place l.stage j to)) (worth_over s v l.order l.layer l.stage l.from g to))
