use Rattle.std.proofs.Common.{◌≡◌, ℕ, ◌<◌, get_or}
use Rattle.forward_value_search.specs.Search.{IsOnward, HasRead}
use Rattle.forward_value_search.proofs.read.read_set.Given as goal

abbrev pub invariant-loop-k : goal.invariant-loop-k
invariant-loop-k g l =
    IsOnward g.S.Semiring.operations l.system l.first l.initial.tables l.tables × (l.tables.hand ≡ l.initial.tables.hand)
    × ((j : ℕ) → j < l.k → HasRead g.S.Semiring.operations l.system l.first l.tables l.row (get_or l.set j 0) l.to l.initial.tables.hand)
