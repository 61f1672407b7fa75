-- The edges that read a pattern. State 0 is the control, and state i is the i-th item.
use Rattle.std.specs.Prelude.{ℕ, zero, suc, Bool, false, ◌&&◌, nat_le, List, [], ◌∷◌, ◌++◌, map, drop, length, if◌then◌else◌}
use Rattle.std.specs.List.{list_all}
use Rattle.config_patterns.specs.declared.item.Item.{Item}
use Rattle.config_patterns.specs.declared.edge.Edge.{Edge}
use Rattle.config_patterns.specs.Membership.{has_symbol}

-- one edge for each symbol of a set
abbrev pub edges_into : ℕ → ℕ → List ℕ → List Edge
edges_into from to set = map (λ g. record { from = from; symbol = g; to = to }) set

-- the edges from a state into the items above it, up to the first without star; `to` is the first of these items
abbrev pub edges_on : ℕ → ℕ → List Item → List Edge
edges_on from to [] = []
edges_on from to (x ∷ xs) = edges_into from to x.set ++ (if x.star then edges_on from (suc to) xs else [])

-- the edges from a starred item to itself
abbrev pub edges_back : ℕ → Item → List Edge
edges_back at x = if x.star then edges_into at at x.set else []

-- the edges from the items, the first of which has the number `at`
abbrev pub edges_from : ℕ → List Item → List Edge
edges_from at [] = []
edges_from at (x ∷ xs) = (edges_back at x ++ edges_on at (suc at) xs) ++ edges_from (suc at) xs

-- all edges: by source, then by target, then in the order of the set
abbrev pub edges_of : List Item → List Edge
edges_of items = edges_on 0 1 items ++ edges_from 1 items

abbrev pub is_starred : Item → Bool
is_starred x = x.star

-- a state is final if all items above it are starred
abbrev pub is_final_of : List Item → ℕ → Bool
is_final_of items i = nat_le i (length items) && list_all is_starred (drop i items)

-- how many states are final
abbrev pub finals_of : List Item → ℕ
finals_of [] = 1
finals_of (x ∷ xs) = if list_all is_starred (x ∷ xs) then suc (finals_of xs) else finals_of xs

-- the item so many above is reached over starred items alone, and has the symbol
abbrev pub leads_to : List Item → ℕ → ℕ → Bool
leads_to [] k g = false
leads_to (x ∷ xs) zero g = has_symbol g x.set
leads_to (x ∷ xs) (suc k) g = x.star && leads_to xs k g

-- the item of a number, counted from 0, is starred and has the symbol
abbrev pub stays_on : List Item → ℕ → ℕ → Bool
stays_on [] k g = false
stays_on (x ∷ xs) zero g = x.star && has_symbol g x.set
stays_on (x ∷ xs) (suc k) g = stays_on xs k g
