-- How a search begins.
use Rattle.std.proofs.Common.{◌≡◌, ◌⊎◌, inl, inr, ℕ, zero, suc, ◌+◌, ◌-◌, ◌<◌, ◌≤◌, true, false, List, [], ◌∷◌, length, get_or, refl, sym, ap, ◌∙◌, subst, arith}
use Rattle.std.specs.Prelude.{Option, None, Some, slice_get, IsTrue, ◌||◌, nat_eq}
use Rattle.std.proofs.lemmas.Bool.{cases_lt, eq-eqb, eqb-true, or_left, or_right}
use Rattle.std.proofs.lemmas.Option.{slice_get_within}
use Rattle.semiring_laws.specs.Semiring.{Operations, IsSemiring, Fits, Below}
use Rattle.semiring_laws.proofs.CallerLemmas.{below_trans, below_zero}
use Rattle.wpds_base.specs.Lists.{IsIn}
use Rattle.pushdown_rules.specs.declared.rule.Rule.{Rule}
use Rattle.pushdown_rules.specs.Pushdown.{Pushdown, IsSystem}
use Rattle.pushdown_rules.specs.Values.{value_of}
use Rattle.pushdown_rules.proofs.CallerLemmas.{value_fits, weight_fits}
use Rattle.config_patterns.specs.declared.item.Item.{Item}
use Rattle.config_patterns.specs.Membership.{PatternValue, has_symbol}
use Rattle.config_patterns.specs.Edges.{leads_to}
use Rattle.value_laws.specs.Settled.{first_worth}
use Rattle.value_laws.proofs.CallerLemmas.{sums_none}
use Rattle.weight_tables.specs.Entries.{TableEntry}
use Rattle.weight_tables.specs.Tables.{TablesValue, AreTables, with_entries, with_hand}
use Rattle.weight_tables.specs.declared.layer.Layer.TheVariants.{Base, Target}
use Rattle.value_search.specs.Views.{found, weights, counting, Leads, IsSound}
use Rattle.value_search.specs.Finds.{FindsPops, FindsEnters, IsSearch, IsOnward}
use Rattle.value_search.proofs.ViewLemmas.{weights_fit, counting_fits}
use Rattle.value_search.proofs.OnwardLemmas.{found_fits}
use Rattle.value_search.proofs.MeetLemmas.{nothing_goes_on}
use Rattle.value_search.proofs.EdgeLemmas.{IsPassed, IsEdgeTo, passed_here, none_behind, none_ahead, edge_above, edge_is}

-- a symbol of a set, by its test
pub in_has : (g : ℕ) (set : List ℕ) → IsIn g set → has_symbol g set ≡ true
in_has g [] there = elim there [ ]
in_has g (h ∷ set) (inl is) = or_left (nat_eq h g) (has_symbol g set) (eq-eqb h g is)
in_has g (h ∷ set) (inr there) = or_right (nat_eq h g) (has_symbol g set) (in_has g set there)

pub has_in : (g : ℕ) (set : List ℕ) → has_symbol g set ≡ true → IsIn g set
has_in g [] has = cc
has_in g (h ∷ set) has = elim (nat_eq h g) as (λ b. nat_eq h g ≡ b → (b || has_symbol g set) ≡ true → IsIn g (h ∷ set)) [
  | true ↦ λ is _. inl (eqb-true h g is)
  | false ↦ λ _ rest. inr (has_in g set rest)
] refl has

-- what is in a list stands somewhere, and what stands there is in it
pub stands_in : (x : ℕ) (xs : List ℕ) → IsIn x xs → (k : ℕ) × (k < length xs) × (get_or xs k 0 ≡ x)
stands_in x [] there = elim there [ ]
stands_in x (y ∷ xs) (inl is) = (0, omega arith, is)
stands_in x (y ∷ xs) (inr there) = let rest = stands_in x xs there in (suc rest.0, let low = rest.1 in omega (arith, low), rest.2)

pub in_there : (xs : List ℕ) (k : ℕ) → k < length xs → IsIn (get_or xs k 0) xs
in_there [] k low = absurd (omega (arith, low))
in_there (x ∷ xs) zero low = inl refl
in_there (x ∷ xs) (suc k) low = inr (in_there xs k (omega (arith, low)))

module _ (items : List Item) (k : ℕ) (passed : IsPassed items 0 k) where
  -- an item that is reached from the control has edges on its symbols
  pub item_edges : (x : Item) → slice_get items k ≡ Some x → (g : ℕ) → IsIn g x.set → IsEdgeTo items 0 g (k + 1)
  item_edges x there g is =
      let e : suc (0 + (k - 0)) ≡ k + 1 = omega arith in
      subst (IsEdgeTo items 0 g) e (edge_above items 0 g (k - 0) (passed_here items 0 k passed x there g ∙ in_has g x.set is))

  -- once an item has no star, or there is none, all edges from the control are met
  pub edges_met : (P : ℕ → ℕ → Type 0) → ((g j : ℕ) → j < k → IsTrue (leads_to items j g) → P g (suc j))
      → (length items ≤ k) ⊎ ((x : Item) × (slice_get items k ≡ Some x) × (x.star ≡ false) × ((g : ℕ) → IsIn g x.set → P g (k + 1)))
      → (g to : ℕ) → IsEdgeTo items 0 g to → P g to
  edges_met P met ends g to edge = elim (edge_is items 0 g to edge) [
    | inr back ↦ absurd (let h = back.1 in omega (arith, h))
    | inl above ↦
        let j = above.0 in
        let at : to ≡ suc j = let h = above.1 in omega (arith, h) in
        let leads : IsTrue (leads_to items j g) = above.2 in
        let Q : ℕ → Type 0 = P g in
        elim (cases_lt j k) [
          | inl low ↦ subst Q (sym at) (met g j low leads)
          | inr high ↦ elim ends [
            | inl last ↦ absurd (none_ahead items 0 k passed last j g (omega (arith, high)) leads)
            | inr item ↦ elim (cases_lt k j) [
              | inl more ↦ absurd (none_behind items 0 k passed item.0 item.1 item.2 j g (omega (arith, more)) leads)
              | inr less ↦
                  let same : k - 0 ≡ j = omega (arith, high, less) in
                  let T : ℕ → Type 0 = λ i. IsTrue (leads_to items i g) in
                  let here : has_symbol g item.0.set ≡ true = sym (passed_here items 0 k passed item.0 item.1 g) ∙ subst T (sym same) leads in
                  let goal : k + 1 ≡ to = omega (arith, same, at) in
                  subst Q goal (item.3 g (has_in g item.0.set here))
            ]
          ]
        ]
  ]

  -- one item more
  pub met_more : (x : Item) → slice_get items k ≡ Some x → (P Q : ℕ → ℕ → Type 0) → ((g to : ℕ) → P g to → Q g to) → ((g j : ℕ) → j < k → IsTrue (leads_to items j g) → P g (suc j))
      → ((g : ℕ) → IsIn g x.set → Q g (k + 1)) → (g j : ℕ) → j < k + 1 → IsTrue (leads_to items j g) → Q g (suc j)
  met_more x there P Q later met here g j low leads = elim (cases_lt j k) [
    | inl before ↦ later g (suc j) (met g j before leads)
    | inr last ↦
        let same : k - 0 ≡ j = omega (arith, low, last) in
        let T : ℕ → Type 0 = λ i. IsTrue (leads_to items i g) in
        let is : has_symbol g x.set ≡ true = sym (passed_here items 0 k passed x there g) ∙ subst T (sym same) leads in
        let goal : k + 1 ≡ suc j = omega (arith, same) in
        let U : ℕ → Type 0 = Q g in
        subst U goal (here g (has_in g x.set is))
  ]

-- the tables with no entries in one layer, and one in hand
module _ {S W Map : Type 0} (operations : S → Operations W Map) (system : Pushdown S W Map) (old e : TablesValue S W Map) (same : system ≡ old.system) where
  pub renewed_base : e ≡ with_entries Base [] old → (e.system ≡ system) × (e.base ≡ []) × (e.target ≡ old.target) × (e.walk ≡ old.walk)
  renewed_base made = (
    ap (λ (u : TablesValue S W Map). u.system) made ∙ sym same,
    ap (λ (u : TablesValue S W Map). u.base) made,
    ap (λ (u : TablesValue S W Map). u.target) made,
    ap (λ (u : TablesValue S W Map). u.walk) made,
  )

  pub renewed_target : (v : TablesValue S W Map) → e ≡ with_entries Target [] old → v ≡ with_hand (operations e.system.semiring).one e
      → (v.system ≡ system) × (v.base ≡ old.base) × (v.target ≡ []) × (v.walk ≡ old.walk) × (v.hand ≡ (operations system.semiring).one)
  renewed_target v made held =
      let is : e.system ≡ system = ap (λ (u : TablesValue S W Map). u.system) made ∙ sym same in (
        ap (λ (u : TablesValue S W Map). u.system) held ∙ is,
        ap (λ (u : TablesValue S W Map). u.base) held ∙ ap (λ (u : TablesValue S W Map). u.base) made,
        ap (λ (u : TablesValue S W Map). u.target) held ∙ ap (λ (u : TablesValue S W Map). u.target) made,
        ap (λ (u : TablesValue S W Map). u.walk) held ∙ ap (λ (u : TablesValue S W Map). u.walk) made,
        ap (λ (u : TablesValue S W Map). u.hand) held ∙ ap (λ (y : Pushdown S W Map). (operations y.semiring).one) is,
      )

module _ {S W Map : Type 0} {operations : S → Operations W Map} {p : Pushdown S W Map} (valid : IsSystem operations p) (laws : IsSemiring (operations p.semiring)) where
  abbrev s : Operations W Map
  s = operations p.semiring

  -- no entries are sound
  pub nothing_sound : (target : Option PatternValue) → IsSound s p target []
  nothing_sound target from g to = sums_none laws (value_of s p) (value_fits valid laws) (Leads p target from g to)

  pub renewed_search : (e : TablesValue S W Map) → e.system ≡ p → e.base ≡ [] → AreTables (operations e.system.semiring) e → IsSearch s p None e
  renewed_search e same nothing tables =
      let T : Pushdown S W Map → Type 0 = λ y. AreTables (operations y.semiring) e in
      let U : List (TableEntry W) → Type 0 = IsSound s p None in
      let sound : IsSound s p None e.base = subst U (sym nothing) (nothing_sound None) in
      record { same = same; tables = subst T same tables; base = sound; sound = sound }

  pub aimed_search : (goal : PatternValue) (old e : TablesValue S W Map) → FindsPops s p old → e.system ≡ p → e.base ≡ old.base → e.target ≡ [] → AreTables (operations e.system.semiring) e → IsSearch s p (Some goal) e
  aimed_search goal old e pops same base nothing tables =
      let T : Pushdown S W Map → Type 0 = λ y. AreTables (operations y.semiring) e in
      let U : List (TableEntry W) → Type 0 = IsSound s p None in
      let V : List (TableEntry W) → Type 0 = IsSound s p (Some goal) in
      record { same = same; tables = subst T same tables; base = subst U (sym base) pops.sound; sound = subst V (sym nothing) (nothing_sound (Some goal)) }

  -- what came to no entries waits
  none_counts : (target : Option PatternValue) (e v : TablesValue S W Map) → found target e ≡ [] → IsOnward s p target e v → (x y z : ℕ) → counting s (found target v) x y z ≡ s.zero
  none_counts target e v nothing onward x y z = elim (onward.further.counts x y z) [
    | inr none ↦ none
    | inl same ↦ same ∙ ap (λ (es : List (TableEntry W)). counting s es x y z) nothing
  ]

  first_none : (k : ℕ) (r : Rule S W Map) → slice_get p.rules k ≡ Some r → (v x : W) → Fits s v → x ≡ s.zero → Below s v (first_worth s r x)
  first_none k r there v x fits none =
      let P : W → Type 0 = Below s v in
      subst P (sym (ap (first_worth s r) none ∙ laws.extend-zero_right r.weight (weight_fits valid laws k r there))) (below_zero laws v fits)

  pub pops_begin : (e v : TablesValue S W Map) → e.base ≡ [] → IsOnward s p None e v → (n : ℕ) → length p.rules ≤ n
      → ((k : ℕ) → k < n → (r : Rule S W Map) → slice_get p.rules k ≡ Some r → r.right ≡ [] → Below s (weights s v.base r.control r.symbol r.to) r.weight) → FindsPops s p v
  pops_begin e v nothing onward n all given =
      let tables = onward.search.tables in
      let fits = weights_fit laws v.base tables.base in
      let none = none_counts None e v nothing onward in
      record {
        sound = onward.search.sound;
        settled = record {
          pops = λ k r there right. let low = slice_get_within p.rules k r there in given k (omega (arith, low, all)) r there right;
          steps = λ k r there g right to. first_none k r there (weights s v.base r.control r.symbol to) (counting s v.base r.to g to) (fits r.control r.symbol to) (none r.to g to);
          calls = λ k r there g h right mid to. nothing_goes_on valid laws k r there g h right (weights s v.base r.control r.symbol to) (fits r.control r.symbol to)
              (counting s v.base r.to g mid) (counting s v.base mid h to) (counting_fits laws v.base tables.base r.to g mid) (none mid h to);
        };
      }

  pub enters_begin : (goal : PatternValue) (e v : TablesValue S W Map) → e.target ≡ [] → IsOnward s p (Some goal) e v
      → ((g to : ℕ) → IsEdgeTo goal.items 0 g to → Below s (weights s v.target goal.control g to) s.one) → FindsEnters s p goal v
  enters_begin goal e v nothing onward given =
      let tables = onward.search.tables in
      let fits = weights_fit laws v.target tables.target in
      let none = none_counts (Some goal) e v nothing onward in
      record {
        sound = onward.search.sound;
        settled = record {
          opens = given;
          steps = λ k r there g right to. first_none k r there (weights s v.target r.control r.symbol to) (counting s v.target r.to g to) (fits r.control r.symbol to) (none r.to g to);
          calls = λ k r there g h right mid to. nothing_goes_on valid laws k r there g h right (weights s v.target r.control r.symbol to) (fits r.control r.symbol to)
              (weights s v.base r.to g mid) (counting s v.target mid h to) (weights_fit laws v.base tables.base r.to g mid) (none mid h to);
          stays = λ k r there g h right mid to edge. first_none k r there (weights s v.target r.control r.symbol to) (counting s v.target r.to g mid) (fits r.control r.symbol to) (none r.to g mid);
        };
      }

  -- what came to a place is still there
  pub below_later : (target : Option PatternValue) (v v' : TablesValue S W Map) → IsSearch s p target v → IsOnward s p target v v' → (c g q : ℕ) (w : W) → Fits s w
      → Below s (weights s (found target v) c g q) w → Below s (weights s (found target v') c g q) w
  below_later target v v' search onward c g q w fw below =
      below_trans laws (weights s (found target v') c g q) (weights s (found target v) c g q) w (found_fits valid laws target v' onward.search c g q) (found_fits valid laws target v search c g q) fw
      (onward.further.falls c g q) below
