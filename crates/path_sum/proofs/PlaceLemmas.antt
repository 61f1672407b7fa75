-- A sum stays among its places, and how many there are.
use Rattle.std.proofs.Common.{◌≡◌, inl, inr, ℕ, zero, suc, ◌+◌, ◌*◌, ◌<◌, true, List, [], ◌∷◌, ◌++◌, map, drop, length, refl, ap, subst, arith}
use Rattle.std.proofs.lemmas.Bool.{cond_both, and_parts, cases_lt, false≢true}
use Rattle.std.proofs.lemmas.List.{length-drop, length-map, length-append}
use Rattle.weighted_automata.specs.declared.place.Place.{Place}
use Rattle.weighted_automata.specs.declared.place.Label.{Label}
use Rattle.weighted_automata.specs.declared.place.Label.TheVariants.{Symbol, Empty}
use Rattle.weighted_automata.specs.declared.transitions.Entry.{Entry}
use Rattle.weighted_automata.specs.Entries.{Present}
use Rattle.config_patterns.specs.declared.item.Item.{Item}
use Rattle.config_patterns.specs.declared.edge.Edge.{Edge}
use Rattle.config_patterns.specs.Membership.{PatternValue}
use Rattle.config_patterns.specs.Edges.{edges_of, leads_to, stays_on}
use Rattle.config_patterns.proofs.CallerLemmas.{edges_are}
use Rattle.wpds_base.specs.Lists.{IsIn}
use Rattle.saturation_laws.proofs.CallerLemmas.{in_left, in_append}
use Rattle.path_sum.specs.Sums.{Ways, ways_of, edge_place, pair_place, has_state}
use Rattle.path_sum.specs.private.Paths.{Moves}
use Rattle.path_sum.specs.private.Work.{AreReachable, pairs_of, sum_places}
use Rattle.path_sum.specs.Pairs.{distinct, states_of}
use Rattle.path_sum.proofs.EntryLemmas.{in_right, entry_in}
use Rattle.path_sum.proofs.GrowingLemmas.{has_state_is}

in_map : {X Y : Type 0} (f : X → Y) (x : X) (xs : List X) → IsIn x xs → IsIn (f x) (map f xs)
in_map f x [] h = elim h [ ]
in_map f x (z ∷ xs) (inl e) = inl (ap f e)
in_map f x (z ∷ xs) (inr h) = inr (in_map f x xs h)

from_map : {X Y : Type 0} (f : X → Y) (y : Y) (xs : List X) → IsIn y (map f xs) → (x : X) × IsIn x xs × (f x ≡ y)
from_map f y [] h = elim h [ ]
from_map f y (z ∷ xs) (inl e) = (z, inl refl, e)
from_map f y (z ∷ xs) (inr h) = let r = from_map f y xs h in (r.0, inr r.1, r.2)

in_distinct : (q : ℕ) (qs : List ℕ) → IsIn q qs → IsIn q (distinct qs)
in_distinct q [] h = elim h [ ]
in_distinct q (r ∷ rs) (inl e) =
    let P : List ℕ → Type 0 = IsIn q in
    let Q : ℕ → Type 0 = λ n. IsIn n (distinct rs) in
    cond_both (has_state r rs) (distinct rs) (r ∷ distinct rs) P (λ t. subst Q e (in_distinct r rs (has_state_is r rs t))) (λ t. inl e)
in_distinct q (r ∷ rs) (inr h) =
    let P : List ℕ → Type 0 = IsIn q in
    cond_both (has_state r rs) (distinct rs) (r ∷ distinct rs) P (λ t. in_distinct q rs h) (λ t. inr (in_distinct q rs h))

in_pairs : (i q n : ℕ) (states : List ℕ) → i < n → IsIn q states → IsIn (pair_place i q) (pairs_of n states)
in_pairs i q zero states within there = absurd (omega (arith, within))
in_pairs i q (suc n) states within there = elim (cases_lt i n) [
  | inl less ↦ in_right (pair_place i q) (map (pair_place n) states) (pairs_of n states) (in_pairs i q n states less there)
  | inr more ↦
      let w : i < suc n = within in
      let same : n ≡ i = omega (arith, more, w) in
      let P : ℕ → Type 0 = λ k. IsIn (pair_place k q) (map (pair_place n) states ++ pairs_of n states) in
      subst P same (in_left (pair_place n q) (map (pair_place n) states) (pairs_of n states) (in_map (pair_place n) q states there))
]

pairs_within : (i q n : ℕ) (states : List ℕ) → IsIn (pair_place i q) (pairs_of n states) → i < n
pairs_within i q zero states h = elim h [ ]
pairs_within i q (suc n) states h = elim (in_append (pair_place i q) (map (pair_place n) states) (pairs_of n states) h) [
  | inl here ↦ let from = from_map (pair_place n) (pair_place i q) states here in
      let e : n ≡ i = ap (λ (x : Place). x.from) from.2 in omega (arith, e)
  | inr there ↦ let less = pairs_within i q n states there in omega (arith, less)
]

pub pairs_count : (n : ℕ) (states : List ℕ) → length (pairs_of n states) ≡ n * length states
pairs_count zero states = omega arith
pairs_count (suc n) states =
    let one = length-append (map (pair_place n) states) (pairs_of n states) in
    let two = length-map states (pair_place n) in
    let more : suc n * length states ≡ length states + n * length states = omega arith in
    omega (arith, one, two, pairs_count n states, more)

leads_within : (items : List Item) (k g : ℕ) → leads_to items k g ≡ true → k < length items
leads_within [] k g h = absurd (false≢true h)
leads_within (x ∷ xs) zero g h = omega arith
leads_within (x ∷ xs) (suc k) g h = let less = leads_within xs k g (and_parts x.star (leads_to xs k g) h).1 in omega (arith, less)

stays_within : (items : List Item) (k g : ℕ) → stays_on items k g ≡ true → k < length items
stays_within [] k g h = absurd (false≢true h)
stays_within (x ∷ xs) zero g h = omega arith
stays_within (x ∷ xs) (suc k) g h = let less = stays_within xs k g h in omega (arith, less)

-- an edge leads to an item
edge_within : (items : List Item) (e : Edge) → IsIn e (edges_of items) → e.to < length items + 1
edge_within items e there = elim ((edges_are items e).0 there) [
  | inl up ↦ let less = leads_within (drop e.from items) up.0 e.symbol up.2 in
      let to = up.1 in
      omega (arith, less, length-drop e.from items, to)
  | inr back ↦ let less = stays_within items back.0 e.symbol back.3 in let to = back.2 in omega (arith, less, to)
]

pub same_in : (x : Place) (es : List Edge) → IsIn x (map edge_place es) → (e : Edge) × IsIn e es × (edge_place e ≡ x)
same_in x [] h = elim h [ ]
same_in x (d ∷ ds) (inl e) = (d, inl refl, e)
same_in x (d ∷ ds) (inr h) = let r = same_in x ds h in (r.0, inr r.1, r.2)

module _ {S W Map : Type 0} (ts : List (Entry S W Map)) (d : PatternValue) where
  abbrev ways : Ways
  ways = ways_of d

  abbrev states : List ℕ
  states = states_of d.control ts

  target_there : (t : Entry S W Map) → Present ts t → IsIn t.place.to states
  target_there t there =
      let to : Entry S W Map → ℕ = λ u. u.place.to in
      in_distinct t.place.to (d.control ∷ map to ts) (inr (in_map to t ts (entry_in t.place ts t there)))

  moves_within : (i j q : ℕ) (l : Label) → IsIn (pair_place i q) (sum_places ways ts) → Moves ways.edges i l j → j < length d.items + 1
  moves_within i j q (Symbol g) there edge =
      let found = same_in (record { from = i; label = Symbol g; to = j }) (edges_of d.items) edge in
      let less = edge_within d.items found.0 found.1 in
      let to : found.0.to ≡ j = ap (λ (x : Place). x.to) found.2 in
      omega (arith, less, to)
  moves_within i j q Empty there same = elim there [
    | inl e ↦ let f : Symbol 0 ≡ Empty = ap (λ (x : Place). x.label) e in cc
    | inr pair ↦ let less = pairs_within i q (length d.items + 1) states pair in let e : i ≡ j = same in omega (arith, less, e)
  ]

  -- a sum leads from its places to its places
  pub places_reach : AreReachable ts ways (sum_places ways ts)
  places_reach = record {
    first = inr (in_pairs 0 d.control (length d.items + 1) states (omega arith) (in_distinct d.control (d.control ∷ map (λ t. t.place.to) ts) (inl refl)));
    pairs = λ i j t from there moves. inr (in_pairs j t.place.to (length d.items + 1) states (moves_within i j t.place.from t.place.label from moves) (target_there t there));
    answer = inl refl;
  }

  pub places_count : length (sum_places ways ts) ≡ (length d.items + 1) * length states + 1
  places_count = let n = pairs_count (length d.items + 1) states in omega (arith, n)
