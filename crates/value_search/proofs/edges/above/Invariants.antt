use Rattle.std.proofs.Common.{ℕ, ◌-◌, ◌<◌, drop}
use Rattle.std.specs.Prelude.{IsTrue}
use Rattle.config_patterns.specs.Edges.{leads_to}
use Rattle.value_search.proofs.EdgeLemmas.{IsPassed}
use Rattle.value_search.proofs.edges.above.Given as goal

abbrev pub invariant-loop-i : goal.invariant-loop-i
invariant-loop-i l = IsPassed l.target.items l.from l.i × ((k : ℕ) → k < l.i - l.from → IsTrue (leads_to (drop l.from l.target.items) k l.symbol) → ⊥)
