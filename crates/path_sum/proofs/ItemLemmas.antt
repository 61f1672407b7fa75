-- The moves by the edges of a pattern are those by its items.
use Rattle.std.proofs.Common.{◌≡◌, inl, inr, ℕ, zero, suc, ◌+◌, ◌-◌, ◌<◌, ◌≤◌, Bool, true, false, List, [], ◌∷◌, ◌++◌, map, length, drop, refl, sym, ap, ap₂, ◌∙◌, subst, arith}
use Rattle.std.specs.Prelude.{None, Some, ◌&&◌, ◌||◌, not, nat_eq, cond, slice_get, IsTrue}
use Rattle.std.specs.List.{All, AllByRecursion}
use Rattle.std.proofs.lemmas.Bool.{and_parts, and_from, ne_eqb, eq-eqb, eqb-true, or_left, or_right, false≢true}
use Rattle.std.proofs.lemmas.List.{append-nil}
use Rattle.std.proofs.lemmas.List.Elements.{All-weaker, recursion_from_All}
use Rattle.weighted_automata.specs.declared.place.Place.{Place}
use Rattle.weighted_automata.specs.declared.place.Label.{Label}
use Rattle.weighted_automata.specs.declared.place.Label.TheVariants.{Symbol}
use Rattle.weighted_automata.specs.Places.{same_label, same_place, has_place}
use Rattle.wpds_base.specs.Lists.{IsIn}
use Rattle.config_patterns.specs.declared.item.Item.{Item}
use Rattle.config_patterns.specs.declared.edge.Edge.{Edge}
use Rattle.config_patterns.specs.Membership.{PatternValue, has_symbol}
use Rattle.config_patterns.specs.Validity.{is_set, IsItem, IsPattern}
use Rattle.config_patterns.specs.Edges.{edges_into, edges_on, edges_back, edges_from, edges_of}
use Rattle.saturation_laws.proofs.CallerLemmas.{in_left}
use Rattle.saturation_core.proofs.CallerLemmas.{drop_at}
use Rattle.path_sum.proofs.EntryLemmas.{in_right}
use Rattle.path_sum.specs.Sums.{Move, Along, edge_place, can_move}
use Rattle.path_sum.specs.private.Work.{edge_moves, into_moves, on_moves, back_moves, item_at, item_moves, HaveMoves}

abbrev pub HasSet : Item → Type 0
HasSet y = IsTrue (is_set y.set)

module _ (i g : ℕ) (x : Place) where
  -- the moves by these edges
  abbrev by_edges : List Edge → List Move
  by_edges es = edge_moves i g x (map edge_place es)

  if_more : (b : Bool) (m : Move) (ms ns : List Move) → cond b (m ∷ (ms ++ ns)) (ms ++ ns) ≡ cond b (m ∷ ms) ms ++ ns
  if_more true m ms ns = refl
  if_more false m ms ns = refl

  by_both : (ds es : List Edge) → by_edges (ds ++ es) ≡ by_edges ds ++ by_edges es
  by_both [] es = refl
  by_both (d ∷ ds) es =
      let test = nat_eq d.from i && nat_eq d.symbol g in
      ap (λ ms. cond test (Along i d.to x ∷ ms) ms) (by_both ds es) ∙ if_more test (Along i d.to x) (by_edges ds) (by_edges es)

  -- edges from another state
  into_other : (from to : ℕ) (set : List ℕ) → nat_eq from i ≡ false → by_edges (edges_into from to set) ≡ []
  into_other from to [] other = refl
  into_other from to (h ∷ set) other =
      let rest = by_edges (edges_into from to set) in
      ap (λ b. cond (b && nat_eq h g) (Along i to x ∷ rest) rest) other ∙ into_other from to set other

  if_other : (from to : ℕ) (b : Bool) (ys : List Item) → by_edges (edges_on from (suc to) ys) ≡ [] → by_edges (cond b (edges_on from (suc to) ys) []) ≡ []
  if_other from to true ys is = is
  if_other from to false ys is = refl

  on_other : (from to : ℕ) (ys : List Item) → nat_eq from i ≡ false → by_edges (edges_on from to ys) ≡ []
  on_other from to [] other = refl
  on_other from to (y ∷ ys) other =
      by_both (edges_into from to y.set) (cond y.star (edges_on from (suc to) ys) [])
      ∙ ap₂ (λ a b. a ++ b) (into_other from to y.set other) (if_other from to y.star ys (on_other from (suc to) ys other))

  back_other : (at : ℕ) (b : Bool) (set : List ℕ) → nat_eq at i ≡ false → by_edges (cond b (edges_into at at set) []) ≡ []
  back_other at true set other = into_other at at set other
  back_other at false set other = refl

  -- edges from the state itself
  into_here : (to : ℕ) (set : List ℕ) → is_set set ≡ true → by_edges (edges_into i to set) ≡ cond (has_symbol g set) (Along i to x ∷ []) []
  into_here to [] distinct = refl
  into_here to (h ∷ set) distinct =
      let parts = and_parts (not (has_symbol h set)) (is_set set) distinct in
      let rest = by_edges (edges_into i to set) in
      let one : List Move = Along i to x ∷ [] in
      ap (λ b. cond (b && nat_eq h g) (Along i to x ∷ rest) rest) (eq-eqb i i refl)
      ∙ ap (λ ms. cond (nat_eq h g) (Along i to x ∷ ms) ms) (into_here to set parts.1)
      ∙ elim (nat_eq h g) as (λ b. nat_eq h g ≡ b → cond b (Along i to x ∷ cond (has_symbol g set) one []) (cond (has_symbol g set) one []) ≡ cond (b || has_symbol g set) one []) [
        | true ↦ λ is.
            let P : ℕ → Type 0 = λ n. not (has_symbol n set) ≡ true in
            let lacks : not (has_symbol g set) ≡ true = subst P (eqb-true h g is) parts.0 in
            elim (has_symbol g set) as (λ b. not b ≡ true → Along i to x ∷ cond b one [] ≡ one) [ true ↦ λ no. absurd (false≢true no) | false ↦ λ _. refl ] lacks
        | false ↦ λ _. refl
      ] refl

  if_here : (to : ℕ) (b : Bool) (ys : List Item) → by_edges (edges_on i (suc to) ys) ≡ on_moves i g x (suc to) ys → by_edges (cond b (edges_on i (suc to) ys) []) ≡ cond b (on_moves i g x (suc to) ys) []
  if_here to true ys is = is
  if_here to false ys is = refl

  on_here : (to : ℕ) (ys : List Item) → AllByRecursion HasSet ys → by_edges (edges_on i to ys) ≡ on_moves i g x to ys
  on_here to [] sets = refl
  on_here to (y ∷ ys) sets =
      by_both (edges_into i to y.set) (cond y.star (edges_on i (suc to) ys) [])
      ∙ ap₂ (λ a b. a ++ b) (into_here to y.set sets.0) (if_here to y.star ys (on_here (suc to) ys sets.1))

  back_here : (b : Bool) (set : List ℕ) → is_set set ≡ true → by_edges (cond b (edges_into i i set) []) ≡ cond b (cond (has_symbol g set) (Along i i x ∷ []) []) []
  back_here true set distinct = into_here i set distinct
  back_here false set distinct = refl

  below : (n m : ℕ) → n < m → nat_eq m n ≡ false
  below n m lt = elim (nat_eq m n) as (λ b. nat_eq m n ≡ b → b ≡ false) [ true ↦ λ is. let same = eqb-true m n is in absurd (omega arith) | false ↦ λ _. refl ] refl

  block_other : (at : ℕ) (y : Item) (ys : List Item) → nat_eq at i ≡ false → by_edges (edges_back at y ++ edges_on at (suc at) ys) ≡ []
  block_other at y ys other =
      by_both (edges_back at y) (edges_on at (suc at) ys) ∙ ap₂ (λ a b. a ++ b) (back_other at y.star y.set other) (on_other at (suc at) ys other)

  above_all : (at : ℕ) (ys : List Item) → i < at → by_edges (edges_from at ys) ≡ []
  above_all at [] lt = refl
  above_all at (y ∷ ys) lt =
      by_both (edges_back at y ++ edges_on at (suc at) ys) (edges_from (suc at) ys)
      ∙ ap₂ (λ a b. a ++ b) (block_other at y ys (below i at lt)) (above_all (suc at) ys (omega (arith, lt)))

  -- the edges from the item whose state this is
  from_item : (at k : ℕ) (ys : List Item) → i ≡ at + k → AllByRecursion HasSet ys
      → by_edges (edges_from at ys) ≡ back_moves i g x (slice_get ys k) ++ on_moves i g x (suc i) (drop (suc k) ys)
  from_item at k [] same sets = refl
  from_item at zero (y ∷ ys) same sets =
      let is : at ≡ i = omega (arith, same) in
      let P : ℕ → Type 0 = λ n. by_edges ((edges_back n y ++ edges_on n (suc n) ys) ++ edges_from (suc n) ys) ≡ cond y.star (cond (has_symbol g y.set) (Along i i x ∷ []) []) [] ++ on_moves i g x (suc i) ys in
      subst P (sym is) (
      by_both (edges_back i y ++ edges_on i (suc i) ys) (edges_from (suc i) ys)
      ∙ ap₂ (λ a b. a ++ b) (by_both (edges_back i y) (edges_on i (suc i) ys)) (above_all (suc i) ys (omega arith))
      ∙ append-nil (by_edges (edges_back i y) ++ by_edges (edges_on i (suc i) ys))
      ∙ ap₂ (λ a b. a ++ b) (back_here y.star y.set sets.0) (on_here (suc i) ys sets.1)
      )
  from_item at (suc k) (y ∷ ys) same sets =
      by_both (edges_back at y ++ edges_on at (suc at) ys) (edges_from (suc at) ys)
      ∙ ap₂ (λ a b. a ++ b) (block_other at y ys (elim (nat_eq at i) as (λ b. nat_eq at i ≡ b → b ≡ false) [ true ↦ λ is. let e = eqb-true at i is in absurd (omega (arith, same, e)) | false ↦ λ _. refl ] refl)) (from_item (suc at) k ys (omega (arith, same)) sets.1)

-- the moves by the edges of items are those by the items
pub by_items : (i g : ℕ) (x : Place) (items : List Item) → All HasSet items → edge_moves i g x (map edge_place (edges_of items)) ≡ item_moves i g x items
by_items zero g x items sets =
    let each = recursion_from_All HasSet items sets in
    by_both 0 g x (edges_on 0 1 items) (edges_from 1 items)
    ∙ ap₂ (λ a b. a ++ b) (on_here 0 g x 1 items each) (above_all 0 g x 1 items (omega arith))
    ∙ append-nil (on_moves 0 g x 1 items)
by_items (suc k) g x items sets =
    let each = recursion_from_All HasSet items sets in
    by_both (suc k) g x (edges_on 0 1 items) (edges_from 1 items)
    ∙ ap₂ (λ a b. a ++ b) (on_other (suc k) g x 0 1 items (ne_eqb 0 (suc k) (λ h. omega (arith, h)))) (from_item (suc k) g x 1 k items (omega arith) each)
    ∙ (let next : suc (suc k) ≡ suc k + 1 = omega arith in ap (λ n. back_moves (suc k) g x (slice_get items k) ++ on_moves (suc k) g x n (drop (suc k) items)) next)

-- an edge that goes from a state on a symbol
goes_is : (i g j : ℕ) (e : Place) → (nat_eq e.from i && same_label e.label (Symbol g)) ≡ true → e.to ≡ j → same_place e (record { from = i; label = Symbol g; to = j }) ≡ true
unfolding same_place
goes_is i g j e test to = and_from (nat_eq e.from i && same_label e.label (Symbol g)) (nat_eq e.to j) test (eq-eqb e.to j to)

abbrev target_of : Move → ℕ
target_of (Along i j x) = j
target_of m = 0

-- what goes along an edge has one
pub moves_have : (i g j : ℕ) (x : Place) (es : List Place) → IsIn (Along i j x) (edge_moves i g x es) → has_place (record { from = i; label = Symbol g; to = j }) es ≡ true
moves_have i g j x [] h = absurd h
moves_have i g j x (e ∷ es) h =
    let y : Place = record { from = i; label = Symbol g; to = j } in
    elim (nat_eq e.from i && same_label e.label (Symbol g)) as (λ b. (nat_eq e.from i && same_label e.label (Symbol g)) ≡ b → IsIn (Along i j x) (cond b (Along i e.to x ∷ edge_moves i g x es) (edge_moves i g x es)) → has_place y (e ∷ es) ≡ true) [
      | true ↦ λ test there. elim there [
        | inl is ↦ or_left (same_place e y) (has_place y es) (goes_is i g j e test (ap target_of is))
        | inr rest ↦ or_right (same_place e y) (has_place y es) (moves_have i g j x es rest)
      ]
      | false ↦ λ test there. or_right (same_place e y) (has_place y es) (moves_have i g j x es there)
    ] refl h

-- so have the moves of an item to itself, and of those above
pub moves_hold : (i g : ℕ) (x : Place) (items : List Item) → All HasSet items
    → HaveMoves (map edge_place (edges_of items)) i g x (back_moves i g x (item_at i items)) × HaveMoves (map edge_place (edges_of items)) i g x (on_moves i g x (i + 1) (drop i items))
moves_hold i g x items sets =
    let es = map edge_place (edges_of items) in
    let same = by_items i g x items sets in
    let back = back_moves i g x (item_at i items) in
    let on = on_moves i g x (i + 1) (drop i items) in
    let all : HaveMoves es i g x (back ++ on) = λ j h. moves_have i g j x es (subst (IsIn (Along i j x)) (sym same) h) in
    (λ j h. all j (in_left (Along i j x) back on h), λ j h. all j (in_right (Along i j x) back on h))

-- an item that takes the symbol has an edge on it
pub into_goes : (edges : List Place) (i g to : ℕ) (x : Place) (y : Item) (l : Label) → HaveMoves edges i g x (into_moves i g x to y) → has_symbol g y.set ≡ true → l ≡ Symbol g → can_move edges i l to ≡ true
into_goes edges i g to x y l moves has label =
    let P : List Move → Type 0 = IsIn (Along i to x) in
    let Q : Label → Type 0 = λ m. can_move edges i m to ≡ true in
    subst Q (sym label) (moves to (subst P (sym (ap (λ b. cond b (Along i to x ∷ []) []) has)) (inl refl)))

pub item_there : (items : List Item) (k : ℕ) → k < length items → (y : Item) × (slice_get items k ≡ Some y)
item_there [] k within = absurd (omega (arith, within))
item_there (y ∷ items) zero within = (y, refl)
item_there (y ∷ items) (suc k) within = item_there items k (omega (arith, within))

-- from the state of a starred item to itself
pub back_is : (i g : ℕ) (x : Place) (items : List Item) (y : Item) → (i ≡ 0 → ⊥) → slice_get items (i - 1) ≡ Some y → y.star ≡ true
    → back_moves i g x (item_at i items) ≡ into_moves i g x (i - 1 + 1) y
back_is zero g x items y some at star = absurd (some refl)
back_is (suc k) g x items y some at star =
    let before : suc k - 1 ≡ k = omega arith in
    let after : suc k ≡ suc k - 1 + 1 = omega arith in
    let P : ℕ → Type 0 = λ n. slice_get items n ≡ Some y in
    ap (back_moves (suc k) g x) (subst P before at) ∙ ap (λ b. cond b (into_moves (suc k) g x (suc k) y) []) star ∙ ap (λ n. into_moves (suc k) g x n y) after

-- the moves into the items from one on
pub on_step : (i g : ℕ) (x : Place) (items : List Item) (k : ℕ) (y : Item) → slice_get items k ≡ Some y
    → on_moves i g x (k + 1) (drop k items) ≡ into_moves i g x (k + 1) y ++ cond y.star (on_moves i g x (k + 1 + 1) (drop (k + 1) items)) []
on_step i g x items k y at =
    let next : suc (k + 1) ≡ k + 1 + 1 = omega arith in
    ap (on_moves i g x (k + 1)) (drop_at items k y at)
    ∙ ap (λ n. into_moves i g x (k + 1) y ++ cond y.star (on_moves i g x n (drop (k + 1) items)) []) next

-- what has moves has the first of them, and the rest
pub have_first : (edges : List Place) (i g : ℕ) (x : Place) (all ms ns : List Move) → all ≡ ms ++ ns → HaveMoves edges i g x all → HaveMoves edges i g x ms
have_first edges i g x all ms ns is have = λ j h. have j (subst (IsIn (Along i j x)) (sym is) (in_left (Along i j x) ms ns h))

pub have_rest : (edges : List Place) (i g : ℕ) (x : Place) (all ms ns : List Move) → all ≡ ms ++ ns → HaveMoves edges i g x all → HaveMoves edges i g x ns
have_rest edges i g x all ms ns is have = λ j h. have j (subst (IsIn (Along i j x)) (sym is) (in_right (Along i j x) ms ns h))

-- each item of a pattern has a set
pub sets_of : (p : PatternValue) → IsPattern p → All HasSet p.items
sets_of p valid = All-weaker (IsItem p.symbols) HasSet (λ y is. is.distinct) p.items valid.items

none_past : (items : List Item) (k : ℕ) → length items ≤ k → (slice_get items k ≡ None) × (drop (suc k) items ≡ [])
none_past [] k past = (refl, refl)
none_past (y ∷ items) zero past = absurd (omega (arith, past))
none_past (y ∷ items) (suc k) past = none_past items k (omega (arith, past))

-- no edges go from a state that is not there
pub past_items : (i g : ℕ) (x : Place) (items : List Item) → length items < i → All HasSet items → edge_moves i g x (map edge_place (edges_of items)) ≡ []
past_items zero g x items past sets = absurd (omega (arith, past))
past_items (suc k) g x items past sets =
    let none = none_past items k (omega (arith, past)) in
    by_items (suc k) g x items sets
    ∙ ap₂ (λ o ys. back_moves (suc k) g x o ++ on_moves (suc k) g x (suc k + 1) ys) none.0 none.1
