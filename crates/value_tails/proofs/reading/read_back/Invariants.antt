use Rattle.std.proofs.Common.{◌≡◌, ℕ, ◌<◌}
use Rattle.wpds_base.specs.Lists.{IsIn}
use Rattle.semiring_laws.specs.Semiring.{Below}
use Rattle.config_patterns.specs.Edges.{edges_of}
use Rattle.value_tails.specs.Tailing.{tail_in}
use Rattle.value_tails.specs.private.Steps.{AreTailsLowered}
use Rattle.value_tails.proofs.reading.read_back.Given as goal

abbrev pub invariant-loop-from : goal.invariant-loop-from
invariant-loop-from g l =
    let v = l.fn.tables in
    let s = g.S.Semiring.operations v.system.semiring in
    AreTailsLowered s l.first v l.tables × (l.tables.hand ≡ v.hand)
    × ((a : ℕ) → a < l.from → (h : ℕ) → IsIn (record { from = a; symbol = h; to = l.fn.to }) (edges_of l.first.items) → Below s (tail_in s l.tables.target a) v.hand)
