-- What lies below a row over nothing is read on by the pattern.
use Rattle.std.proofs.Common.{◌≡◌, inl, inr, ℕ, zero, suc, ◌<◌, ◌≤◌, ◌+◌, ◌-◌, true, false, List, [], ◌∷◌, length, drop, get_or, refl, sym, ap, ◌∙◌, subst, length-drop, arith}
use Rattle.std.specs.Prelude.{Some, slice_get, nat_eq, ◌||◌, ◌&&◌}
use Rattle.std.proofs.lemmas.Bool.{cases_lt, and_parts, eqb-true, eq-eqb}
use Rattle.std.proofs.lemmas.List.Folds.{list_any_at}
use Rattle.std.proofs.lemmas.Option.{same_Some}
use Rattle.wpds_base.specs.Lists.{IsIn}
use Rattle.semiring_laws.specs.Semiring.{Operations, IsSemiring, Fits}
use Rattle.semiring_laws.proofs.CallerLemmas.{below_trans}
use Rattle.weighted_automata.specs.declared.place.Label.TheVariants.{Symbol, Empty}
use Rattle.weighted_automata.specs.declared.place.Place.{Place}
use Rattle.pushdown_rules.specs.Pushdown.{Pushdown, IsSystem}
use Rattle.config_patterns.specs.declared.item.Item.{Item}
use Rattle.config_patterns.specs.Edges.{edges_of, leads_to, stays_on}
use Rattle.config_patterns.specs.Membership.{PatternValue, has_symbol}
use Rattle.config_patterns.proofs.CallerLemmas.{edges_are}
use Rattle.weight_tables.specs.Tables.{TablesValue}
use Rattle.forward_value_search.specs.Places.{arrow}
use Rattle.forward_value_search.specs.Search.{HasSums, weights, IsReady, IsOnward, HasRead}
use Rattle.forward_value_search.proofs.EdgeLemmas.{edge_within}
use Rattle.forward_value_search.proofs.SumLemmas.{read_at}
use Rattle.forward_value_search.proofs.OnwardLemmas.{weights_fit}

-- a symbol of a set stands somewhere in it
pub symbol_at : (g : ℕ) (set : List ℕ) → has_symbol g set ≡ true → (k : ℕ) × (k < length set) × (get_or set k 0 ≡ g)
symbol_at g [] has = cc
symbol_at g (h ∷ set) has = elim (nat_eq h g) as (λ b. nat_eq h g ≡ b → (b || has_symbol g set) ≡ true → (k : ℕ) × (k < length (h ∷ set)) × (get_or (h ∷ set) k 0 ≡ g)) [
  | true ↦ λ is _. (0, omega arith, eqb-true h g is)
  | false ↦ λ _ rest.
      let at = symbol_at g set rest in
      let low = at.1 in
      (suc at.0, omega (arith, low), at.2)
] refl has

pub has_at : (set : List ℕ) (k : ℕ) → k < length set → has_symbol (get_or set k 0) set ≡ true
has_at set k low = list_any_at (λ h. nat_eq h (get_or set k 0)) set k 0 low (eq-eqb (get_or set k 0) (get_or set k 0) refl)

-- the items before one of a number are all starred
abbrev pub Reaches : List Item → ℕ → Type 0
Reaches xs zero = Unit {0}
Reaches [] (suc k) = ⊥
Reaches (x ∷ xs) (suc k) = (x.star ≡ true) × Reaches xs k

pub reaches_more : (xs : List Item) (k : ℕ) (x : Item) → Reaches xs k → slice_get xs k ≡ Some x → x.star ≡ true → Reaches xs (suc k)
reaches_more [] k x reaches there star = cc
reaches_more (y ∷ xs) zero x reaches there star = (ap (λ (i : Item). i.star) (same_Some y x there) ∙ star, tt)
reaches_more (y ∷ xs) (suc k) x reaches there star = (reaches.0, reaches_more xs k x reaches.1 there star)

-- so that one is led to by each symbol of its set
pub leads_at : (xs : List Item) (k : ℕ) (x : Item) (g : ℕ) → Reaches xs k → slice_get xs k ≡ Some x → leads_to xs k g ≡ has_symbol g x.set
leads_at [] k x g reaches there = cc
leads_at (y ∷ xs) zero x g reaches there = ap (λ (i : Item). has_symbol g i.set) (same_Some y x there)
leads_at (y ∷ xs) (suc k) x g reaches there = ap (λ b. b && leads_to xs k g) reaches.0 ∙ leads_at xs k x g reaches.1 there

-- and none behind one without star
pub leads_no_further : (xs : List Item) (k : ℕ) (x : Item) (m g : ℕ) → slice_get xs k ≡ Some x → x.star ≡ false → leads_to xs m g ≡ true → m ≤ k
leads_no_further [] k x m g there plain leads = cc
leads_no_further (y ∷ xs) k x zero g there plain leads = omega arith
leads_no_further (y ∷ xs) zero x (suc m) g there plain leads =
    let yes = (and_parts y.star (leads_to xs m g) leads).0 in
    let no : y.star ≡ false = ap (λ (i : Item). i.star) (same_Some y x there) ∙ plain in
    let both : true ≡ false = sym yes ∙ no in cc
leads_no_further (y ∷ xs) (suc k) x (suc m) g there plain leads =
    let low = leads_no_further xs k x m g there plain (and_parts y.star (leads_to xs m g) leads).1 in omega (arith, low)

pub leads_low : (xs : List Item) (k g : ℕ) → leads_to xs k g ≡ true → k < length xs
leads_low [] k g leads = cc
leads_low (y ∷ xs) zero g leads = omega arith
leads_low (y ∷ xs) (suc k) g leads = let low = leads_low xs k g (and_parts y.star (leads_to xs k g) leads).1 in omega (arith, low)

pub stays_at : (xs : List Item) (k : ℕ) (x : Item) (g : ℕ) → slice_get xs k ≡ Some x → stays_on xs k g ≡ (x.star && has_symbol g x.set)
stays_at [] k x g there = cc
stays_at (y ∷ xs) zero x g there = ap (λ (i : Item). i.star && has_symbol g i.set) (same_Some y x there)
stays_at (y ∷ xs) (suc k) x g there = stays_at xs k x g there

pub dropped_at : {X : Type 0} (xs : List X) (i j : ℕ) → i ≤ j → slice_get (drop i xs) (j - i) ≡ slice_get xs j
dropped_at xs zero j low = let e : j - zero ≡ j = omega arith in ap (slice_get xs) e
dropped_at [] (suc i) j low = refl
dropped_at (x ∷ xs) (suc i) zero low = absurd (omega (arith, low))
dropped_at (x ∷ xs) (suc i) (suc j) low = let e : suc j - suc i ≡ j - i = omega arith in ap (slice_get (drop i xs)) e ∙ dropped_at xs i j (omega (arith, low))

-- the edges of an item
pub edge_on : (items : List Item) (from k g : ℕ) → leads_to (drop from items) k g ≡ true → IsIn (record { from = from; symbol = g; to = suc (from + k) }) (edges_of items)
edge_on items from k g leads = (edges_are items (record { from = from; symbol = g; to = suc (from + k) })).1 (inl (k, refl, leads))

pub edge_back : (items : List Item) (k g : ℕ) → stays_on items k g ≡ true → IsIn (record { from = suc k; symbol = g; to = suc k }) (edges_of items)
edge_back items k g stays = (edges_are items (record { from = suc k; symbol = g; to = suc k })).1 (inr (k, refl, refl, stays))

module _ {S W Map : Type 0} {operations : S → Operations W Map} {p : Pushdown S W Map} (valid : IsSystem operations p) (laws : IsSemiring (operations p.semiring)) (first : PatternValue) where
  abbrev s : Operations W Map
  s = operations p.semiring

  pub read_later : (v new : TablesValue S W Map) → IsReady operations p first v → IsOnward operations p first v new → (x : Place) (g to : ℕ) (w : W) → Fits s w → HasRead operations p first v x g to w
      → HasRead operations p first new x g to w
  read_later v new ready onward x g to w fw read =
      let goal = arrow x.from (Symbol g) to in
      below_trans laws (weights operations p first new goal) (weights operations p first v goal) w (weights_fit valid laws first new onward.ready goal) (weights_fit valid laws first v ready goal) fw (onward.further.falls goal) read

  pub read_sums : (x : Place) → x.label ≡ Empty → (g to : ℕ) (w : W) → IsIn (record { from = x.to; symbol = g; to = to }) (edges_of first.items) → HasSums operations p first x w
      → HasSums operations p first (arrow x.from (Symbol g) to) w
  read_sums x empty g to w edge sums =
      let few = edge_within first.items (record { from = x.to; symbol = g; to = to }) edge in
      let whole : x ≡ arrow x.from Empty x.to = ap (λ l. arrow x.from l x.to) empty in
      let P : Place → Type 0 = λ y. HasSums operations p first y w in
      read_at valid laws (length first.items) first.control (edges_of first.items) x.from x.to g to few.0 few.1 edge w (subst P whole sums)

-- all edges from an item, by those to itself and those to items above it
pub all_edges : (items : List Item) (from : ℕ) (P : ℕ → ℕ → Type 0) → ((k g : ℕ) → from ≡ suc k → stays_on items k g ≡ true → P g from)
    → ((k g : ℕ) → leads_to (drop from items) k g ≡ true → P g (suc (from + k))) → (g j : ℕ) → IsIn (record { from = from; symbol = g; to = j }) (edges_of items) → P g j
all_edges items from P back on g j edge = elim ((edges_are items (record { from = from; symbol = g; to = j })).0 edge) [
  | inl is ↦ let Q : ℕ → Type 0 = P g in subst Q (sym is.1) (on is.0 g is.2)
  | inr is ↦
      let Q : ℕ → Type 0 = P g in
      let same : from ≡ j = is.1 ∙ sym is.2 in
      subst Q same (back is.0 g is.1 is.3)
]

-- An item that is reached.
module _ (items : List Item) (i j : ℕ) (low : i ≤ j) (x : Item) (there : slice_get items j ≡ Some x) (reaches : Reaches (drop i items) (j - i)) where
  dropped : slice_get (drop i items) (j - i) ≡ Some x
  dropped = dropped_at items i j low ∙ there

  pub reaches_next : x.star ≡ true → Reaches (drop i items) (j + 1 - i)
  reaches_next star =
      let e : suc (j - i) ≡ j + 1 - i = omega (arith, low) in
      let Q : ℕ → Type 0 = Reaches (drop i items) in
      subst Q e (reaches_more (drop i items) (j - i) x reaches dropped star)

  -- the edge over a symbol of the item
  pub edge_here : (g : ℕ) → has_symbol g x.set ≡ true → IsIn (record { from = i; symbol = g; to = j + 1 }) (edges_of items)
  edge_here g has =
      let leads : leads_to (drop i items) (j - i) g ≡ true = leads_at (drop i items) (j - i) x g reaches dropped ∙ has in
      let to : suc (i + (j - i)) ≡ j + 1 = omega (arith, low) in
      let Q : ℕ → Type 0 = λ n. IsIn (record { from = i; symbol = g; to = n }) (edges_of items) in
      subst Q to (edge_on items i (j - i) g leads)

  -- What was read by the items before it, and by it, was read by all so far.
  module _ (P : ℕ → ℕ → Type 0) (before : (k g : ℕ) → i + k < j → leads_to (drop i items) k g ≡ true → P g (suc (i + k))) (here : (g : ℕ) → has_symbol g x.set ≡ true → P g (j + 1)) where
    pub leads_so_far : (k g : ℕ) → i + k < j + 1 → leads_to (drop i items) k g ≡ true → P g (suc (i + k))
    leads_so_far k g less leads = elim (cases_lt (i + k) j) [
      | inl before_it ↦ before k g before_it leads
      | inr at ↦
          let same : k ≡ j - i = omega (arith, low, less, at) in
          let to : j + 1 ≡ suc (i + k) = omega (arith, low, less, at) in
          let Q : ℕ → Type 0 = P g in
          let has : has_symbol g x.set ≡ true = sym (leads_at (drop i items) (j - i) x g reaches dropped) ∙ ap (λ n. leads_to (drop i items) n g) (sym same) ∙ leads in
          subst Q to (here g has)
    ]

    pub leads_to_last : x.star ≡ false → (k g : ℕ) → leads_to (drop i items) k g ≡ true → P g (suc (i + k))
    leads_to_last plain k g leads =
        let few = leads_no_further (drop i items) (j - i) x k g dropped plain leads in
        leads_so_far k g (omega (arith, low, few)) leads

-- what was read by all items was read by all edges on
pub leads_by_all : (items : List Item) (i j : ℕ) → length items ≤ j → (P : ℕ → ℕ → Type 0) → ((k g : ℕ) → i + k < j → leads_to (drop i items) k g ≡ true → P g (suc (i + k)))
    → (k g : ℕ) → leads_to (drop i items) k g ≡ true → P g (suc (i + k))
leads_by_all items i j all P before k g leads =
    let low = leads_low (drop i items) k g leads in
    before k g (omega (arith, low, all, length-drop i items)) leads
