use Rattle.std.proofs.Common.{◌≡◌, ℕ, ◌<◌}
use Rattle.std.specs.Prelude.{IsTrue}
use Rattle.semiring_laws.specs.Semiring.{Below}
use Rattle.config_patterns.specs.Edges.{is_final_of}
use Rattle.value_tails.specs.Tailing.{tail_in}
use Rattle.value_tails.specs.private.Steps.{AreTailsLowered}
use Rattle.value_tails.proofs.making.begin.Given as goal

abbrev pub invariant-loop-state : goal.invariant-loop-state
invariant-loop-state g l =
    let v = l.initial.tables in
    let s = g.S.Semiring.operations v.system.semiring in
    AreTailsLowered s l.first v l.tables × (l.tables.hand ≡ v.hand) × ((a : ℕ) → a < l.state → IsTrue (is_final_of l.first.items a) → Below s (tail_in s l.tables.target a) s.one)
