-- The forward direction fits the opening of each pattern over the system.
use Rattle.std.proofs.Common.{◌≡◌, inl, inr, ℕ, zero, suc, ◌<◌, ◌≤◌, true, List, [], ◌∷◌, length, drop, refl, ap, subst, arith}
use Rattle.std.specs.Prelude.{IsTrue, All, nat_le, nat_lt, nat_eq, ◌&&◌}
use Rattle.std.specs.List.{list_all}
use Rattle.std.proofs.lemmas.Bool.{and_from, and_parts, or_cases, eqb-true, le-leb, lt-ltb}
use Rattle.wpds_base.specs.Limits.{most_items}
use Rattle.wpds_base.specs.Lists.{IsIn}
use Rattle.weighted_automata.specs.declared.place.Label.{Label}
use Rattle.weighted_automata.specs.declared.place.Label.TheVariants.{Symbol}
use Rattle.weighted_automata.specs.declared.place.Place.{Place}
use Rattle.pushdown_rules.specs.Pushdown.{Pushdown}
use Rattle.config_patterns.specs.declared.item.Item.{Item}
use Rattle.config_patterns.specs.declared.edge.Edge.{Edge}
use Rattle.config_patterns.specs.Membership.{PatternValue, has_symbol}
use Rattle.config_patterns.specs.Edges.{edges_of, leads_to, stays_on}
use Rattle.config_patterns.proofs.CallerLemmas.{edges_are}
use Rattle.saturation_laws.proofs.CallerLemmas.{from_map}
use Rattle.pattern_openings.specs.PatternOpenings.{IsOver, place_of_edge, opening_of}
use Rattle.pattern_openings.proofs.CallerLemmas.{opening_edge, opening_final}
use Rattle.direction_parts.proofs.CallerLemmas.{all_from}
use Rattle.poststar_laws.specs.Middles.{base_of}
use Rattle.poststar_laws.specs.Fitting.{reads_below, is_item_edge, fits_post}

all_at : {X : Type 0} (P : X → Type 0) (xs : List X) → All P xs → (x : X) → IsIn x xs → P x
all_at P [] all x h = absurd h
all_at P (y ∷ xs) all x (inl same) = subst P same (all 0 y (omega arith))
all_at P (y ∷ xs) all x (inr h) = all_at P xs (λ i d within. let w : suc i < suc (length xs) = omega (arith, within) in all (suc i) d w) x h

from_drop : {X : Type 0} (n : ℕ) (xs : List X) (x : X) → IsIn x (drop n xs) → IsIn x xs
from_drop zero xs x h = h
from_drop (suc n) [] x h = h
from_drop (suc n) (y ∷ xs) x h = inr (from_drop n xs x h)

module _ (symbols : ℕ) where
  abbrev IsBelow : List ℕ → Type 0
  IsBelow set = All (λ g. g < symbols) set

  in_set : (set : List ℕ) → ((g : ℕ) → IsIn g set → g < symbols) → (g : ℕ) → has_symbol g set ≡ true → g < symbols
  in_set [] each g h = cc
  in_set (k ∷ set) each g h = elim (or_cases (nat_eq k g) (has_symbol g set) h) [
    | inl e ↦ each g (inl (eqb-true k g e))
    | inr more ↦ in_set set (λ i there. each i (inr there)) g more
  ]

  of_item : (x : Item) → IsBelow x.set → (g : ℕ) → has_symbol g x.set ≡ true → g < symbols
  of_item x below g h = in_set x.set (all_at (λ i. i < symbols) x.set below) g h

  leads_below : (xs : List Item) → ((x : Item) → IsIn x xs → IsBelow x.set) → (k g : ℕ) → leads_to xs k g ≡ true → g < symbols
  leads_below [] each k g h = cc
  leads_below (x ∷ xs) each zero g h = of_item x (each x (inl refl)) g h
  leads_below (x ∷ xs) each (suc k) g h = leads_below xs (λ y there. each y (inr there)) k g (and_parts x.star (leads_to xs k g) h).1

  stays_below : (xs : List Item) → ((x : Item) → IsIn x xs → IsBelow x.set) → (k g : ℕ) → stays_on xs k g ≡ true → g < symbols
  stays_below [] each k g h = cc
  stays_below (x ∷ xs) each zero g h = of_item x (each x (inl refl)) g (and_parts x.star (has_symbol g x.set) h).1
  stays_below (x ∷ xs) each (suc k) g h = stays_below xs (λ y there. each y (inr there)) k g h

  -- each edge reads a symbol of an item
  edge_below : (items : List Item) → All (λ (x : Item). IsBelow x.set) items → (e : Edge) → IsIn e (edges_of items) → e.symbol < symbols
  edge_below items sets e there =
      let each = all_at (λ (x : Item). IsBelow x.set) items sets in
      elim ((edges_are items e).0 there) [
        | inl is ↦ leads_below (drop e.from items) (λ x h. each x (from_drop e.from items x h)) is.0 e.symbol is.2
        | inr is ↦ stays_below items each is.0 e.symbol is.3
      ]

module _ {S W Map : Type 0} (p : Pushdown S W Map) (pattern : PatternValue) (over : IsOver p.controls p.symbols pattern) where
  abbrev items : ℕ
  items = length pattern.items

  abbrev base : ℕ
  base = base_of items p

  edge_passes : (x : Place) → IsIn x (opening_of p.controls pattern).edges → is_item_edge items p x ≡ true
  edge_passes x there =
      let is = opening_edge pattern p.controls x there in
      let e = from_map (place_of_edge p.controls pattern.control) x (edges_of pattern.items) there in
      let symbol = e.before.symbol in
      let label : Symbol symbol ≡ x.label = ap (λ (y : Place). y.label) e.is in
      let P : Label → Type 0 = λ l. reads_below p.symbols l ≡ true in
      let low = over.control in
      let from : x.from < base = elim is.from [ inl same ↦ omega (arith, same, low) | inr item ↦ item.1 ] in
      and_from (reads_below p.symbols x.label) (nat_lt x.from base && (nat_le p.controls x.to && nat_lt x.to base))
      (subst P label (lt-ltb symbol p.symbols (edge_below p.symbols pattern.items over.sets e.before e.there)))
      (and_from (nat_lt x.from base) (nat_le p.controls x.to && nat_lt x.to base) (lt-ltb x.from base from)
      (and_from (nat_le p.controls x.to) (nat_lt x.to base) (le-leb p.controls x.to is.to_item) (lt-ltb x.to base is.to_last)))

  pub pattern_fits : items ≤ most_items → IsTrue (fits_post items p (opening_of p.controls pattern))
  pattern_fits few =
      let o = opening_of p.controls pattern in
      let edges = list_all (is_item_edge items p) o.edges in
      let finals = list_all (λ q. nat_lt q base) o.finals in
      and_from (nat_le items most_items) (edges && finals) (le-leb items most_items few)
      (and_from edges finals (all_from (is_item_edge items p) o.edges edge_passes)
      (all_from (λ q. nat_lt q base) o.finals (λ q there. lt-ltb q base (opening_final pattern p.controls q over.control there))))
