-- The edges of a pattern from a state over a symbol, in the order of where they lead.
use Rattle.std.proofs.Common.{◌≡◌, inl, inr, ℕ, zero, suc, ◌+◌, ◌-◌, ◌<◌, ◌≤◌, true, false, List, [], ◌∷◌, length, drop, refl, sym, ap, ◌∙◌, subst, arith}
use Rattle.std.specs.Prelude.{Option, None, Some, slice_get, IfNone, IfSome, IsTrue, ◌&&◌}
use Rattle.std.proofs.lemmas.Bool.{and_parts, cases_lt}
use Rattle.std.proofs.lemmas.Option.{same_Some}
use Rattle.wpds_base.specs.Lists.{IsIn}
use Rattle.config_patterns.specs.declared.item.Item.{Item}
use Rattle.config_patterns.specs.Membership.{has_symbol}
use Rattle.config_patterns.specs.Edges.{edges_of, leads_to, stays_on}
use Rattle.config_patterns.specs.Paths.{IsEdge}
use Rattle.config_patterns.proofs.CallerLemmas.{edges_are}
use Rattle.weight_tables.proofs.CallerLemmas.{to_go}

-- what stands at a number opens what is left of the list there
pub opens : (xs : List Item) (i : ℕ) (x : Item) → slice_get xs i ≡ Some x → drop i xs ≡ x ∷ drop (suc i) xs
opens [] i x there = cc
opens (y ∷ xs) zero x there = ap (λ z. z ∷ xs) (same_Some y x there)
opens (y ∷ xs) (suc i) x there = opens xs i x there

drop_all : (xs : List Item) (i : ℕ) → length xs ≤ i → drop i xs ≡ []
drop_all [] zero low = refl
drop_all [] (suc i) low = refl
drop_all (x ∷ xs) zero low = absurd (omega (arith, low))
drop_all (x ∷ xs) (suc i) low = drop_all xs i (omega (arith, low))

drop_within : (xs : List Item) (i k : ℕ) → k < length (drop i xs) → i + k < length xs
drop_within xs zero k low = omega (arith, low)
drop_within [] (suc i) k low = absurd (omega (arith, low))
drop_within (x ∷ xs) (suc i) k low = let rest = drop_within xs i k low in omega (arith, rest)

-- nothing is led to beyond the items
pub leads_within : (xs : List Item) (k g : ℕ) → IsTrue (leads_to xs k g) → k < length xs
leads_within [] k g leads = cc
leads_within (x ∷ xs) zero g leads = omega arith
leads_within (x ∷ xs) (suc k) g leads =
    let rest = leads_within xs k g (and_parts x.star (leads_to xs k g) leads).1 in
    omega (arith, rest)

stays_within : (xs : List Item) (k g : ℕ) → IsTrue (stays_on xs k g) → k < length xs
stays_within [] k g stays = cc
stays_within (x ∷ xs) zero g stays = omega arith
stays_within (x ∷ xs) (suc k) g stays = let rest = stays_within xs k g stays in omega (arith, rest)

-- an item of a number stays where it has a star and the symbol
pub stays_at : (xs : List Item) (k g : ℕ) (x : Item) → slice_get xs k ≡ Some x → stays_on xs k g ≡ (x.star && has_symbol g x.set)
stays_at [] k g x there = cc
stays_at (y ∷ xs) zero g x there = ap (λ (z : Item). z.star && has_symbol g z.set) (same_Some y x there)
stays_at (y ∷ xs) (suc k) g x there = stays_at xs k g x there

-- From a state items up to another have a star each, so that what lies behind is reached from both alike.
pub record IsPassed (items : List Item) (from i : ℕ) : Type 0 where
  pub order : from ≤ i
  pub same : (j g : ℕ) → leads_to (drop from items) ((i - from) + j) g ≡ leads_to (drop i items) j g

module _ (items : List Item) (from : ℕ) where
  pub passes_none : IsPassed items from from
  passes_none = record { order = omega arith; same = λ j g. let e : (from - from) + j ≡ j = omega arith in ap (λ n. leads_to (drop from items) n g) e }

  module _ (i : ℕ) (passed : IsPassed items from i) (x : Item) (there : slice_get items i ≡ Some x) where
    ahead : (j g : ℕ) → leads_to (drop from items) ((i - from) + suc j) g ≡ (x.star && leads_to (drop (suc i) items) j g)
    ahead j g = passed.same (suc j) g ∙ ap (λ xs. leads_to xs (suc j) g) (opens items i x there)

    pub passed_here : (g : ℕ) → leads_to (drop from items) (i - from) g ≡ has_symbol g x.set
    passed_here g =
        let e : i - from ≡ (i - from) + 0 = omega arith in
        ap (λ n. leads_to (drop from items) n g) e ∙ passed.same 0 g ∙ ap (λ xs. leads_to xs 0 g) (opens items i x there)

    -- one with a star is passed by
    pub passes_on : x.star ≡ true → IsPassed items from (i + 1)
    passes_on star =
        let low = passed.order in
        record {
          order = omega (arith, low);
          same = λ j g.
              let e : ((i + 1) - from) + j ≡ (i - from) + suc j = omega (arith, low) in
              let next : suc i ≡ i + 1 = omega arith in
              ap (λ n. leads_to (drop from items) n g) e ∙ ahead j g ∙ ap (λ b. b && leads_to (drop (suc i) items) j g) star ∙ ap (λ n. leads_to (drop n items) j g) next;
        }

    -- and none without lets anything pass
    pub none_behind : x.star ≡ false → (k g : ℕ) → i - from < k → IsTrue (leads_to (drop from items) k g) → ⊥
    none_behind plain k g more leads =
        let low = passed.order in
        let e : k ≡ (i - from) + suc (k - suc (i - from)) = omega (arith, more) in
        let is : leads_to (drop from items) k g ≡ false = ap (λ n. leads_to (drop from items) n g) e ∙ ahead (k - suc (i - from)) g ∙ ap (λ b. b && leads_to (drop (suc i) items) (k - suc (i - from)) g) plain in
        let both : true ≡ false = sym leads ∙ is in
        cc

  -- behind the last there is nothing
  pub none_ahead : (i : ℕ) → IsPassed items from i → length items ≤ i → (k g : ℕ) → i - from ≤ k → IsTrue (leads_to (drop from items) k g) → ⊥
  none_ahead i passed last k g more leads =
      let e : k ≡ (i - from) + (k - (i - from)) = omega (arith, more) in
      let is : leads_to (drop from items) k g ≡ false = ap (λ n. leads_to (drop from items) n g) e ∙ passed.same (k - (i - from)) g ∙ ap (λ xs. leads_to xs (k - (i - from)) g) (drop_all items i last) in
      let both : true ≡ false = sym leads ∙ is in
      cc

-- an edge by what it is
abbrev pub IsEdgeTo : List Item → ℕ → ℕ → ℕ → Type 0
IsEdgeTo items from g to = IsIn (record { from = from; symbol = g; to = to }) (edges_of items)

module _ (items : List Item) (from g : ℕ) where
  pub edge_above : (k : ℕ) → IsTrue (leads_to (drop from items) k g) → IsEdgeTo items from g (suc (from + k))
  edge_above k leads = (edges_are items (record { from = from; symbol = g; to = suc (from + k) })).1 (inl (k, refl, leads))

  pub edge_back : (k : ℕ) → from ≡ suc k → IsTrue (stays_on items k g) → IsEdgeTo items from g from
  edge_back k is stays = (edges_are items (record { from = from; symbol = g; to = from })).1 (inr (k, is, is, stays))

  pub edge_is : (to : ℕ) → IsEdgeTo items from g to → IsEdge items (record { from = from; symbol = g; to = to })
  edge_is to edge = (edges_are items (record { from = from; symbol = g; to = to })).0 edge

  pub edge_within : (to : ℕ) → IsEdgeTo items from g to → (0 < to) × (to ≤ length items) × (from ≤ to)
  edge_within to edge = elim (edge_is to edge) [
    | inl above ↦
        let low = leads_within (drop from items) above.0 g above.2 in
        let is = above.1 in
        let n = drop_within items from above.0 low in
        (omega (arith, is), omega (arith, is, n), omega (arith, is))
    | inr back ↦
        let low = stays_within items back.0 g back.3 in
        let to_is = back.2 in
        let from_is = back.1 in
        (omega (arith, to_is), omega (arith, to_is, low), omega (arith, to_is, from_is))
  ]

drop_then : (xs : List Item) (i j : ℕ) → drop j (drop i xs) ≡ drop (i + j) xs
drop_then xs zero j = let e : j ≡ 0 + j = omega arith in ap (λ n. drop n xs) e
drop_then [] (suc i) j = drop_all [] j (omega arith) ∙ sym (drop_all [] (suc i + j) (omega arith))
drop_then (x ∷ xs) (suc i) j = let e : suc (i + j) ≡ suc i + j = omega arith in drop_then xs i j ∙ ap (λ n. drop n (x ∷ xs)) e

-- what lies behind an item that is led to is reached over it
leads_on : (xs : List Item) (k g : ℕ) → IsTrue (leads_to xs k g) → (j h : ℕ) → leads_to xs (k + j) h ≡ leads_to (drop k xs) j h
leads_on xs zero g leads j h = let e : 0 + j ≡ j = omega arith in ap (λ n. leads_to xs n h) e
leads_on [] (suc k) g leads j h = cc
leads_on (x ∷ xs) (suc k) g leads j h =
    let parts = and_parts x.star (leads_to xs k g) leads in
    let e : suc k + j ≡ suc (k + j) = omega arith in
    ap (λ n. leads_to (x ∷ xs) n h) e ∙ ap (λ b. b && leads_to xs (k + j) h) parts.0 ∙ leads_on xs k g parts.1 j h

pub leads_passed : (items : List Item) (from k g : ℕ) → IsTrue (leads_to (drop from items) k g) → IsPassed items from (from + k)
leads_passed items from k g leads = record {
  order = omega arith;
  same = λ j h.
      let e : ((from + k) - from) + j ≡ k + j = omega arith in
      ap (λ n. leads_to (drop from items) n h) e ∙ leads_on (drop from items) k g leads j h ∙ ap (λ xs. leads_to xs j h) (drop_then items from k);
}

-- What `above` says of a state from which all that lies behind is reached.
abbrev pub IsNone : List Item → ℕ → ℕ → Type 0
IsNone items at g = (k : ℕ) → IsTrue (leads_to (drop at items) k g) → ⊥

abbrev pub IsNext : List Item → ℕ → ℕ → ℕ → Type 0
IsNext items at g to = (k : ℕ) × (to ≡ suc (at + k)) × IsTrue (leads_to (drop at items) k g) × ((j : ℕ) → j < k → IsTrue (leads_to (drop at items) j g) → ⊥)

module _ (items : List Item) (from g at : ℕ) (passed : IsPassed items from at) where
  -- an edge that leads further than the state is one that the state has
  further : (n : ℕ) → at < n → IsEdgeTo items from g n → (k : ℕ) × (n ≡ suc (at + k)) × IsTrue (leads_to (drop at items) k g)
  further n more edge =
      let order = passed.order in
      elim (edge_is items from g n edge) [
        | inr back ↦ absurd (let a = back.1 in let b = back.2 in omega (arith, a, b, more, order))
        | inl above ↦
            let is = above.1 in
            let k : ℕ = n - suc at in
            let e : (at - from) + (n - suc at) ≡ above.0 = omega (arith, is, more, order) in
            let P : ℕ → Type 0 = λ i. IsTrue (leads_to (drop from items) i g) in
            let leads : IsTrue (leads_to (drop from items) ((at - from) + (n - suc at)) g) = subst P (sym e) above.2 in
            (n - suc at, omega (arith, more), sym (passed.same (n - suc at) g) ∙ leads)
      ]

  pub next_none : IsNone items at g → (n : ℕ) → at < n → IsEdgeTo items from g n → ⊥
  next_none none n more edge = let f = further n more edge in none f.0 f.2

  module _ (to : ℕ) (next : IsNext items at g to) where
    pub next_edge : IsEdgeTo items from g to
    next_edge =
        let order = passed.order in
        let k = next.0 in
        let is = next.1 in
        let e : suc (from + ((at - from) + next.0)) ≡ to = omega (arith, order, is) in
        subst (IsEdgeTo items from g) e (edge_above items from g ((at - from) + next.0) (passed.same next.0 g ∙ next.2))

    pub next_between : (m : ℕ) → at < m → m < to → IsEdgeTo items from g m → ⊥
    next_between m more less edge =
        let f = further m more edge in
        let is = next.1 in
        let was = f.1 in
        next.3 f.0 (omega (arith, is, was, less)) f.2

    pub next_later : at < to
    next_later = let is = next.1 in omega (arith, is)

    pub next_within : to ≤ length items
    next_within = let w = edge_within items from g to next_edge in w.1

-- By the results of the calls.
module _ (items : List Item) (from g at : ℕ) (passed : IsPassed items from at) where
  pub by_none : (o : Option ℕ) → IfNone o (IsNone items at g) → IfNone o ((n : ℕ) → at < n → IsEdgeTo items from g n → ⊥)
  by_none None none = next_none items from g at passed none
  by_none (Some n) none = none

  pub by_edge : (o : Option ℕ) → IfSome o (IsNext items at g) → IfSome o (λ n. IsEdgeTo items from g n)
  by_edge None some = some
  by_edge (Some n) some = next_edge items from g at passed n some

  pub by_between : (o : Option ℕ) → IfSome o (IsNext items at g) → IfSome o (λ n. (m : ℕ) → at < m → m < n → IsEdgeTo items from g m → ⊥)
  by_between None some = some
  by_between (Some n) some = next_between items from g at passed n some

  pub by_later : (o : Option ℕ) → IfSome o (IsNext items at g) → IfSome o (λ n. at < n)
  by_later None some = some
  by_later (Some n) some = next_later items from g at passed n some

  pub by_within : (o : Option ℕ) → IfSome o (IsNext items at g) → IfSome o (λ n. n ≤ length items)
  by_within None some = some
  by_within (Some n) some = next_within items from g at passed n some

-- without an edge back, those that lead further are all
module _ (items : List Item) (from g : ℕ) (no : (k : ℕ) → from ≡ suc k → IsTrue (stays_on items k g) → ⊥) where
  only_further : (n : ℕ) → IsEdgeTo items from g n → from < n
  only_further n edge = elim (edge_is items from g n edge) [
    | inl above ↦ let is = above.1 in omega (arith, is)
    | inr back ↦ absurd (no back.0 back.1 back.3)
  ]

  pub first_none : (o : Option ℕ) → IfNone o (IsNone items from g) → IfNone o ((n : ℕ) → IsEdgeTo items from g n → ⊥)
  first_none None none = λ n edge. next_none items from g from (passes_none items from) none n (only_further n edge) edge
  first_none (Some n) none = none

  pub first_next : (o : Option ℕ) → IfSome o (IsNext items from g) → IfSome o (λ n. (m : ℕ) → m < n → IsEdgeTo items from g m → ⊥)
  first_next None some = some
  first_next (Some n) some = λ m less edge. next_between items from g from (passes_none items from) n some m (only_further m edge) less edge

-- A walk over the edges stands where one leads, or at none, and all before it are met.
pub record IsEdgeWalk (items : List Item) (from g : ℕ) (next : Option ℕ) (P : ℕ → Type 0) : Type 0 where
  pub edge : (n : ℕ) → next ≡ Some n → IsEdgeTo items from g n
  pub within : (n : ℕ) → next ≡ Some n → n ≤ length items
  pub met : (to : ℕ) → ((n : ℕ) → next ≡ Some n → to < n) → IsEdgeTo items from g to → P to

module _ (items : List Item) (from g : ℕ) where
  pub edges_start : (next : Option ℕ) (P : ℕ → Type 0) → IfNone next ((to : ℕ) → IsEdgeTo items from g to → ⊥) → IfSome next (λ n. IsEdgeTo items from g n)
      → IfSome next (λ n. (to : ℕ) → to < n → IsEdgeTo items from g to → ⊥) → IfSome next (λ n. n ≤ length items) → IsEdgeWalk items from g next P
  edges_start None P none edge first within = record {
    edge = λ n e. cc;
    within = λ n e. cc;
    met = λ to before is. absurd (none to is);
  }
  edges_start (Some n) P none edge first within = record {
    edge = λ m e. subst (IsEdgeTo items from g) (same_Some n m e) edge;
    within = λ m e. let P : ℕ → Type 0 = λ i. i ≤ length items in subst P (same_Some n m e) within;
    met = λ to before is. absurd (first to (before n refl) is);
  }

  pub edges_go_on : (at : ℕ) (now : Option ℕ) (P Q : ℕ → Type 0) → now ≡ Some at → IsEdgeWalk items from g now P → ((to : ℕ) → P to → Q to) → Q at → (next : Option ℕ)
      → IfNone next ((n : ℕ) → at < n → IsEdgeTo items from g n → ⊥) → IfSome next (λ n. IsEdgeTo items from g n)
      → IfSome next (λ n. (m : ℕ) → at < m → m < n → IsEdgeTo items from g m → ⊥) → IfSome next (λ n. n ≤ length items) → IsEdgeWalk items from g next Q
  edges_go_on at now P Q is walk later here None none edge between within = record {
    edge = λ n e. cc;
    within = λ n e. cc;
    met = λ to before there. elim (cases_lt to at) [
      | inl low ↦ later to (walk.met to (λ n e. let same : at ≡ n = same_Some at n (sym is ∙ e) in omega (arith, low, same)) there)
      | inr high ↦ elim (cases_lt at to) [
        | inl more ↦ absurd (none to more there)
        | inr less ↦ let same : at ≡ to = omega (arith, high, less) in subst Q same here
      ]
    ];
  }
  edges_go_on at now P Q is walk later here (Some n) none edge between within = record {
    edge = λ m e. subst (IsEdgeTo items from g) (same_Some n m e) edge;
    within = λ m e. let P : ℕ → Type 0 = λ i. i ≤ length items in subst P (same_Some n m e) within;
    met = λ to before there. elim (cases_lt to at) [
      | inl low ↦ later to (walk.met to (λ n e. let same : at ≡ n = same_Some at n (sym is ∙ e) in omega (arith, low, same)) there)
      | inr high ↦ elim (cases_lt at to) [
        | inl more ↦ absurd (between to more (before n refl) there)
        | inr less ↦ let same : at ≡ to = omega (arith, high, less) in subst Q same here
      ]
    ];
  }

  pub edges_end : (next : Option ℕ) (P : ℕ → Type 0) → next ≡ None → IsEdgeWalk items from g next P → (to : ℕ) → IsEdgeTo items from g to → P to
  edges_end next P is walk to edge = walk.met to (λ n e. let no : None ≡ Some n = sym is ∙ e in cc) edge

-- fewer edges are left to go over
pub fewer_edges : (n at : ℕ) (next : Option ℕ) → at ≤ n → IfSome next (λ m. at < m) → IfSome next (λ m. m ≤ n) → to_go (suc n) next < to_go (suc n) (Some at)
fewer_edges n at None low later within = omega (arith, low)
fewer_edges n at (Some m) low later within = omega (arith, low, later, within)

-- whether the item of a state is one that stays
pub stays_decided : (items : List Item) (from g : ℕ) (x : Item) → slice_get items (from - 1) ≡ Some x → (k : ℕ) → from ≡ suc k → stays_on items k g ≡ (x.star && has_symbol g x.set)
stays_decided items from g x there k is =
    let e : from - 1 ≡ k = omega (arith, is) in
    stays_at items k g x (ap (slice_get items) (sym e) ∙ there)

pub stays_low : (items : List Item) (from g : ℕ) → length items < from → (k : ℕ) → from ≡ suc k → IsTrue (stays_on items k g) → ⊥
stays_low items from g high k is stays = let low = stays_within items k g stays in absurd (omega (arith, high, is, low))

-- What a walk over the items above a state knows where it stops, and where it goes on.
module _ (items : List Item) (from g i : ℕ) (passed : IsPassed items from i) (none : (k : ℕ) → k < i - from → IsTrue (leads_to (drop from items) k g) → ⊥) where
  pub above_ends : length items ≤ i → IsNone items from g
  above_ends last k leads = elim (cases_lt k (i - from)) [
    | inl low ↦ none k low leads
    | inr high ↦ none_ahead items from i passed last k g (omega (arith, high)) leads
  ]

  module _ (x : Item) (there : slice_get items i ≡ Some x) where
    pub above_found : has_symbol g x.set ≡ true → IsNext items from g (i + 1)
    above_found has = let order = passed.order in (i - from, omega (arith, order), passed_here items from i passed x there g ∙ has, none)

    pub above_more : has_symbol g x.set ≡ false → (k : ℕ) → k < (i + 1) - from → IsTrue (leads_to (drop from items) k g) → ⊥
    above_more lacks k low leads = elim (cases_lt k (i - from)) [
      | inl before ↦ none k before leads
      | inr last ↦
          let order = passed.order in
          let same : k ≡ i - from = omega (arith, low, last, order) in
          let P : ℕ → Type 0 = λ n. IsTrue (leads_to (drop from items) n g) in
          let here : leads_to (drop from items) (i - from) g ≡ true = subst P same leads in
          let both : true ≡ false = sym here ∙ passed_here items from i passed x there g ∙ lacks in
          cc
    ]

    pub above_stops : has_symbol g x.set ≡ false → x.star ≡ false → IsNone items from g
    above_stops lacks plain k leads = elim (cases_lt (i - from) k) [
      | inl more ↦ none_behind items from i passed x there plain k g more leads
      | inr less ↦ let order = passed.order in above_more lacks k (omega (arith, less, order)) leads
    ]

-- Behind an edge to an item above.
module _ (items : List Item) (from g to : ℕ) (edge : IsEdgeTo items from g to) (differs : to ≡ from → ⊥) (x : Item) (there : slice_get items (to - 1) ≡ Some x) where
  -- the item that it leads to is reached over items with a star
  reached : (k : ℕ) × (to ≡ suc (from + k)) × IsPassed items from (from + k) × (slice_get items (from + k) ≡ Some x)
  reached = elim (edge_is items from g to edge) [
    | inl above ↦
        let is = above.1 in
        let e : to - 1 ≡ from + above.0 = omega (arith, is) in
        (above.0, above.1, leads_passed items from above.0 g above.2, ap (slice_get items) (sym e) ∙ there)
    | inr back ↦ absurd (let a = back.1 in let b = back.2 in differs (omega (arith, a, b)))
  ]

  pub next_passes : x.star ≡ true → IsPassed items from to
  next_passes star =
      let r = reached in
      let is = r.1 in
      let e : (from + r.0) + 1 ≡ to = omega (arith, is) in
      subst (IsPassed items from) e (passes_on items from (from + r.0) r.2 x r.3 star)

  pub next_stops : x.star ≡ false → (n : ℕ) → to < n → IsEdgeTo items from g n → ⊥
  next_stops plain n more other =
      let r = reached in
      let is = r.1 in
      elim (edge_is items from g n other) [
        | inl above ↦ let at = above.1 in none_behind items from (from + r.0) r.2 x r.3 plain above.0 g (omega (arith, is, at, more)) above.2
        | inr back ↦ let a = back.1 in let b = back.2 in omega (arith, a, b, is, more)
      ]
