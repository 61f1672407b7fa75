-- What holds of each pattern.
use Rattle.std.specs.Prelude.{◌≡◌, ℕ, ◌<◌, ◌≤◌, Bool, true, ◌&&◌, not, List, [], ◌∷◌, length, All, IsTrue, Option, None, Some}
use Rattle.wpds_base.specs.Limits.{most_items, most_edges}
use Rattle.config_patterns.specs.declared.item.Item.{Item}
use Rattle.config_patterns.specs.Membership.{PatternValue, has_symbol}
use Rattle.config_patterns.specs.Edges.{edges_of, finals_of}

-- no symbol stands twice
abbrev pub is_set : List ℕ → Bool
is_set [] = true
is_set (g ∷ gs) = not (has_symbol g gs) && is_set gs

-- an item with a set of symbols below a count
pub record IsItem (symbols : ℕ) (x : Item) : Type 0 where
  pub below : All (λ g. g < symbols) x.set
  pub distinct : IsTrue (is_set x.set)

-- A pattern within the limits.
pub record IsPattern (p : PatternValue) : Type 0 where
  pub few_items : length p.items ≤ most_items
  pub few_edges : length (edges_of p.items) ≤ most_edges
  pub items : All (IsItem p.symbols) p.items

-- the counts that are kept of the items
pub record AreCounts (items : List Item) (edge_count final_count : ℕ) : Type 0 where
  pub edges : edge_count ≡ length (edges_of items)
  pub finals : final_count ≡ finals_of items

-- the number, if it is not over the limit of edges
abbrev pub IsWithin : Option ℕ → ℕ → Type 0
IsWithin None n = most_edges < n
IsWithin (Some k) n = (k ≡ n) × (k ≤ most_edges)
