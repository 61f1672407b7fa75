-- Where the edges of a pattern lead from a state.
use Rattle.std.specs.Prelude.{◌≡◌, ◌⊎◌, ◌↔◌, ℕ, ◌+◌, ◌-◌, ◌≤◌, ◌<◌, IsTrue, IsFalse, List, length, Some, slice_get}
use Rattle.wpds_base.specs.Lists.{IsIn}
use Rattle.config_patterns.specs.declared.item.Item.{Item}
use Rattle.config_patterns.specs.Membership.{has_symbol}
use Rattle.config_patterns.specs.Edges.{edges_of}
use Rattle.walk_pairs.specs.declared.ways.Ways.{Ways}

module _ (items : List Item) where
  -- the item of a state, counted from 1, has the symbol
  abbrev pub TakesAt : ℕ → ℕ → Type 0
  TakesAt state g = (x : Item) × (slice_get items (state - 1) ≡ Some x) × IsTrue (has_symbol g x.set)

  -- the state is that of a starred item
  abbrev pub StaysAt : ℕ → Type 0
  StaysAt state = (x : Item) × (0 < state) × (slice_get items (state - 1) ≡ Some x) × IsTrue x.star

  -- Each item between the two states is starred but the last, which is not starred or is the last of all.
  pub record IsLastWay (state last : ℕ) : Type 0 where
    pub above : state ≤ last
    pub within : last ≤ length items
    pub starred : (k : ℕ) → state ≤ k → k + 1 < last → (x : Item) → slice_get items k ≡ Some x → IsTrue x.star
    pub stops : (last ≡ length items) ⊎ ((state < last) × ((x : Item) → slice_get items (last - 1) ≡ Some x → IsFalse x.star))

  -- The edges from the state lead to these states, over the symbols of their items.
  pub record AreWays (state : ℕ) (w : Ways) : Type 0 where
    pub above : 1 ≤ w.first
    pub within : w.end ≤ length items + 1
    pub edges : (g j : ℕ) → IsIn (record { from = state; symbol = g; to = j }) (edges_of items) ↔ ((w.first ≤ j) × (j < w.end) × TakesAt j g)
