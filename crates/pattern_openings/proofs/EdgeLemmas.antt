-- The edges and final states of a pattern's opening.
use Rattle.std.proofs.Common.{◌≡◌, ◌⊎◌, inl, inr, ℕ, zero, suc, ◌+◌, ◌<◌, ◌≤◌, true, List, [], ◌∷◌, length, drop, refl, ap, subst, arith}
use Rattle.std.specs.Prelude.{nat_le}
use Rattle.std.specs.List.{AllByRecursion, All, list_all, range_with_len}
use Rattle.std.proofs.lemmas.Bool.{and_parts, and_from, le-leb}
use Rattle.std.proofs.lemmas.List.{drop_all}
use Rattle.std.proofs.lemmas.List.Elements.{All-from_recursion}
use Rattle.weighted_automata.specs.declared.place.Place.{Place}
use Rattle.config_patterns.specs.declared.item.Item.{Item}
use Rattle.config_patterns.specs.declared.edge.Edge.{Edge}
use Rattle.config_patterns.specs.Membership.{PatternValue}
use Rattle.config_patterns.specs.Edges.{edges_of, is_final_of, is_starred, leads_to, stays_on}
use Rattle.config_patterns.proofs.CallerLemmas.{edges_are}
use Rattle.wpds_base.specs.Lists.{IsIn}
use Rattle.saturation_laws.proofs.CallerLemmas.{in_map, from_map, from_filter, from_range}
use Rattle.pattern_openings.specs.PatternOpenings.{state_of, place_of_edge, finals_of_items, opening_of, IsEdgeOf}
use Rattle.pattern_openings.proofs.ReadLemmas.{in_edges, is_final}

leads_within : (items : List Item) (k g : ℕ) → leads_to items k g ≡ true → k < length items
leads_within [] k g h = cc
leads_within (x ∷ xs) zero g h = omega arith
leads_within (x ∷ xs) (suc k) g h = let parts = and_parts x.star (leads_to xs k g) h in let rest = leads_within xs k g parts.1 in omega (arith, rest)

stays_within : (items : List Item) (k g : ℕ) → stays_on items k g ≡ true → k < length items
stays_within [] k g h = cc
stays_within (x ∷ xs) zero g h = omega arith
stays_within (x ∷ xs) (suc k) g h = let rest = stays_within xs k g h in omega (arith, rest)

dropped : (items : List Item) (i k : ℕ) → k < length (drop i items) → i + k < length items
dropped items zero k h = let g : k < length items = h in omega (arith, g)
dropped [] (suc i) k h = absurd (let g : k < 0 = h in omega (arith, g))
dropped (x ∷ items) (suc i) k h = let rest = dropped items i k h in omega (arith, rest)

-- Which states an edge joins.
pub record IsBetween (items : List Item) (e : Edge) : Type 0 where
  pub source : e.from ≤ length items
  pub before : ℕ
  pub target : e.to ≡ suc before
  pub within : before < length items

pub between : (items : List Item) (e : Edge) → IsIn e (edges_of items) → IsBetween items e
between items e there = elim ((edges_are items e).0 (in_edges e (edges_of items) there)) [
  | inl on ↦
      let far = dropped items e.from on.0 (leads_within (drop e.from items) on.0 e.symbol on.2) in
      record { source = omega (arith, far); before = e.from + on.0; target = on.1; within = far }
  | inr back ↦
      let far = stays_within items back.0 e.symbol back.3 in
      let from = back.1 in
      record { source = omega (arith, far, from); before = back.0; target = back.2; within = far }
]

-- an edge of an opening goes from the control or an item to an item
pub edge_is : (controls control : ℕ) (items : List Item) (e : Edge) → IsIn e (edges_of items) → IsEdgeOf controls control (length items) (place_of_edge controls control e)
edge_is controls control items e there =
    let is = between items e there in
    let to : state_of controls control e.to ≡ controls + is.before = ap (state_of controls control) is.target in
    let far = is.within in
    record {
      from = elim e.from as (λ n. n ≤ length items → (state_of controls control n ≡ control) ⊎ ((controls ≤ state_of controls control n) × (state_of controls control n < controls + length items))) [
        | zero ↦ λ h. inl refl
        | suc n ↦ λ h. let h' : suc n ≤ length items = h in inr (omega arith, omega (arith, h'))
      ] is.source;
      reads = (e.symbol, refl);
      to_item = omega (arith, to);
      to_last = omega (arith, to, far);
    }

state_within : (controls control : ℕ) (items : List Item) → control < controls → (i : ℕ) → i ≤ length items → state_of controls control i < controls + length items
state_within controls control items low zero few = omega (arith, low)
state_within controls control items low (suc i) few = let h : suc i ≤ length items = few in omega (arith, h)

pub final_is_state : (controls control : ℕ) (items : List Item) → control < controls → (i : ℕ) → IsIn i (finals_of_items items) → state_of controls control i < controls + length items
final_is_state controls control items low i there =
    let within = from_range 0 (suc (length items)) i (from_filter (is_final_of items) i (range_with_len 0 (suc (length items))) there).0 in
    state_within controls control items low i (let h = within.1 in omega (arith, h))

-- the last item's state is final
pub last_is_final : (items : List Item) → IsIn (length items) (finals_of_items items)
last_is_final items =
    is_final items (length items) (and_from (nat_le (length items) (length items)) (list_all is_starred (drop (length items) items)) (le-leb (length items) (length items) (omega arith))
    (ap (list_all is_starred) (drop_all (length items) items (omega arith))))

-- as they stand in an opening
module _ (pattern : PatternValue) (controls : ℕ) where
  pub opening_edge : (x : Place) → IsIn x (opening_of controls pattern).edges → IsEdgeOf controls pattern.control (length pattern.items) x
  opening_edge x there =
      let e = from_map (place_of_edge controls pattern.control) x (edges_of pattern.items) there in
      let P : Place → Type 0 = IsEdgeOf controls pattern.control (length pattern.items) in
      subst P e.is (edge_is controls pattern.control pattern.items e.before e.there)

  pub opening_final : (q : ℕ) → pattern.control < controls → IsIn q (opening_of controls pattern).finals → q < controls + length pattern.items
  opening_final q low there =
      let i = from_map (state_of controls pattern.control) q (finals_of_items pattern.items) there in
      let P : ℕ → Type 0 = λ n. n < controls + length pattern.items in
      subst P i.is (final_is_state controls pattern.control pattern.items low i.before i.there)

  pub opening_last : IsIn (state_of controls pattern.control (length pattern.items)) (opening_of controls pattern).finals
  opening_last = in_map (state_of controls pattern.control) (length pattern.items) (finals_of_items pattern.items) (last_is_final pattern.items)

all_in : (P : Edge → Type 0) (es : List Edge) → ((e : Edge) → IsIn e es → P e) → AllByRecursion P es
all_in P [] each = tt
all_in P (e ∷ es) each = (each e (inl refl), all_in P es (λ d h. each d (inr h)))

-- the states of a pattern with few items
pub edges_few : (items : List Item) → length items ≤ 1000 → All (λ (e : Edge). (e.from ≤ 1000) × (e.to ≤ 1000)) (edges_of items)
edges_few items few =
    let P : Edge → Type 0 = λ e. (e.from ≤ 1000) × (e.to ≤ 1000) in
    let each : (e : Edge) → IsIn e (edges_of items) → P e = λ e there.
    let is = between items e there in
    let a = is.source in
    let b = is.target in
    let c = is.within in
    (omega (arith, a, few), omega (arith, b, c, few)) in
    All-from_recursion P (edges_of items) (all_in P (edges_of items) each)
