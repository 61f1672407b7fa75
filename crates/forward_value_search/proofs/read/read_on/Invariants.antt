use Rattle.std.proofs.Common.{◌≡◌, ℕ, suc, ◌+◌, ◌-◌, ◌<◌, true, drop}
use Rattle.config_patterns.specs.Edges.{leads_to}
use Rattle.forward_value_search.specs.Search.{IsOnward, HasRead}
use Rattle.forward_value_search.proofs.ReadLemmas.{Reaches}
use Rattle.forward_value_search.proofs.read.read_on.Given as goal

abbrev pub invariant-items : goal.invariant-items
invariant-items g l =
    IsOnward g.S.Semiring.operations l.system l.first l.initial.tables l.tables × (l.tables.hand ≡ l.initial.tables.hand)
    × ((k h : ℕ) → l.row.to + k < l.j → leads_to (drop l.row.to l.first.items) k h ≡ true
    → HasRead g.S.Semiring.operations l.system l.first l.tables l.row h (suc (l.row.to + k)) l.initial.tables.hand)
    × Reaches (drop l.row.to l.first.items) (l.j - l.row.to)
