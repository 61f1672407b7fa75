-- Paths along edges, and what they read.
use Rattle.std.specs.Prelude.{◌≡◌, ◌⊎◌, ℕ, suc, ◌+◌, drop, List, [], ◌∷◌, IsTrue}
use Rattle.wpds_base.specs.Lists.{IsIn}
use Rattle.config_patterns.specs.declared.item.Item.{Item}
use Rattle.config_patterns.specs.declared.edge.Edge.{Edge}
use Rattle.config_patterns.specs.Edges.{edges_of, is_final_of, leads_to, stays_on}

-- a path of edges leads from a state over the symbols to a state
abbrev pub Reads : List Edge → ℕ → List ℕ → ℕ → Type 0
Reads edges from [] to = from ≡ to
Reads edges from (g ∷ word) to = (mid : ℕ) × IsIn (record { from = from; symbol = g; to = mid }) edges × Reads edges mid word to

-- a path of a pattern's edges leads from the control over the symbols to a final state
abbrev pub IsRead : List Item → List ℕ → Type 0
IsRead items word = (q : ℕ) × Reads (edges_of items) 0 word q × IsTrue (is_final_of items q)

-- The edge goes from a state to an item above it, over items between them that are all starred, or from a starred item to itself. The item that it goes to has its symbol.
abbrev pub IsEdge : List Item → Edge → Type 0
IsEdge items e = ((k : ℕ) × (e.to ≡ suc (e.from + k)) × IsTrue (leads_to (drop e.from items) k e.symbol))
    ⊎ ((k : ℕ) × (e.from ≡ suc k) × (e.to ≡ suc k) × IsTrue (stays_on items k e.symbol))
