use Rattle.std.proofs.Common.{ℕ, ◌<◌, get_or}
use Rattle.semiring_laws.specs.Semiring.{Below}
use Rattle.weight_tables.specs.Entries.{weight_in}
use Rattle.walk_pairs.specs.Giving.{IsFallOn, worth_over}
use Rattle.walk_pairs.specs.Lowerings.{ArePairsLowered}
use Rattle.walk_pairs.specs.Pairs.{pair_place}
use Rattle.walk_pairs.specs.Ways.{TakesAt}
use Rattle.walk_pairs.proofs.falls.fall_rows.Given as goal

abbrev pub invariant-loop-k : goal.invariant-loop-k
invariant-loop-k g l =
    let v = l.initial.tables in
    let s = g.S.Semiring.operations v.system.semiring in
    ArePairsLowered s (IsFallOn s v l.order l.layer l.stage l.from (TakesAt l.pattern.items l.next) l.next) v l.tables
    × ((j : ℕ) → j < l.k → (to : ℕ) → Below s (weight_in s l.tables.walk (pair_place l.stage l.next to)) (worth_over s v l.order l.layer l.stage l.from (get_or l.set j 0) to))
