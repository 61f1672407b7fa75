-- The edges of a pattern lead between its items.
use Rattle.std.proofs.Common.{◌≡◌, inl, inr, ℕ, zero, suc, ◌<◌, ◌≤◌, true, List, [], ◌∷◌, length, drop, length-drop, arith}
use Rattle.std.proofs.lemmas.Bool.{and_parts}
use Rattle.wpds_base.specs.Lists.{IsIn}
use Rattle.config_patterns.specs.declared.item.Item.{Item}
use Rattle.config_patterns.specs.declared.edge.Edge.{Edge}
use Rattle.config_patterns.specs.Edges.{edges_of, leads_to, stays_on}
use Rattle.config_patterns.proofs.CallerLemmas.{edges_are}

leads_within : (xs : List Item) (k g : ℕ) → leads_to xs k g ≡ true → k < length xs
leads_within [] k g h = cc
leads_within (x ∷ xs) zero g h = omega arith
leads_within (x ∷ xs) (suc k) g h = let rest = leads_within xs k g (and_parts x.star (leads_to xs k g) h).1 in omega (arith, rest)

stays_within : (xs : List Item) (k g : ℕ) → stays_on xs k g ≡ true → k < length xs
stays_within [] k g h = cc
stays_within (x ∷ xs) zero g h = omega arith
stays_within (x ∷ xs) (suc k) g h = let rest = stays_within xs k g h in omega (arith, rest)

-- each edge leads from an item, or from nothing read, to an item
pub edge_within : (items : List Item) (e : Edge) → IsIn e (edges_of items) → (e.from ≤ length items) × (e.to ≤ length items)
edge_within items e there = elim ((edges_are items e).0 there) [
  | inl on ↦
      let low = leads_within (drop e.from items) on.0 e.symbol on.2 in
      let to = on.1 in
      (omega (arith, low, to, length-drop e.from items), omega (arith, low, to, length-drop e.from items))
  | inr back ↦
      let low = stays_within items back.0 e.symbol back.3 in
      let to = back.2 in
      let from = back.1 in
      (omega (arith, low, from), omega (arith, low, to))
]
