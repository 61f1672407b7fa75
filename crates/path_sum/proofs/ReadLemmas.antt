-- Where the pattern reads one label alone, the moves of a pair are those over the rows of that label and of nothing.
use Rattle.std.proofs.Common.{◌≡◌, inl, inr, ℕ, suc, ◌+◌, ◌≤◌, true, false, zero, List, [], ◌∷◌, ◌++◌, cond, drop, length, refl, sym, ap, ap₂, ◌∙◌, arith}
use Rattle.std.specs.Prelude.{Option, None, Some, ◌&&◌, ◌||◌, nat_eq, slice_get}
use Rattle.std.proofs.lemmas.Bool.{and_parts, or_cases, cond-true, eqb-true, eq-eqb, ne_eqb}
use Rattle.key_rows.specs.Rows.{index_from}
use Rattle.pushdown_rules.proofs.CallerLemmas.{by_number, index_found}
use Rattle.config_patterns.specs.declared.item.Item.{Item}
use Rattle.config_patterns.specs.Membership.{PatternValue, has_symbol}
use Rattle.config_patterns.specs.Validity.{IsPattern}
use Rattle.weighted_automata.specs.declared.place.Place.{Place}
use Rattle.weighted_automata.specs.declared.place.Label.{Label}
use Rattle.weighted_automata.specs.declared.place.Label.TheVariants.{Symbol, Empty}
use Rattle.weighted_automata.specs.declared.transitions.Entry.{Entry}
use Rattle.weighted_automata.specs.Places.{same_label}
use Rattle.weighted_automata.specs.Entries.{is_from}
use Rattle.saturation_laws.specs.declared.opening.Opening.{Opening}
use Rattle.path_sum.specs.Sums.{Ways, ways_of, Move, Along}
use Rattle.path_sum.specs.private.Work.{edge_moves, into_moves, on_moves, back_moves, item_at, moves_by, pair_moves, ReadsAlone}
use Rattle.path_sum.proofs.ItemLemmas.{by_items, on_step, sets_of}

-- ---- over the rows

same_is : (l m : Label) → same_label l m ≡ true → l ≡ m
same_is (Symbol a) (Symbol b) h = ap Symbol (eqb-true a b h)
same_is (Symbol a) Empty h = cc
same_is Empty (Symbol b) h = cc
same_is Empty Empty h = refl

module _ {S W Map : Type 0} where
  -- it goes from the state
  pub from_state : (q : ℕ) (label : Label) (t : Entry S W Map) → (is_from q label t || is_from q Empty t) ≡ true → t.place.from ≡ q
  from_state q label t passes = elim (or_cases (is_from q label t) (is_from q Empty t) passes) [
    | inl e ↦ eqb-true t.place.from q (and_parts (nat_eq t.place.from q) (same_label t.place.label label) e).0
    | inr e ↦ eqb-true t.place.from q (and_parts (nat_eq t.place.from q) (same_label t.place.label Empty) e).0
  ]

  -- where the row of a transition goes on, its own row does
  pub row_next : (q : ℕ) (label : Label) (k : ℕ) (ts : List (Entry S W Map)) (next : Option ℕ) → index_from (is_from q label) k ts ≡ Some k
      → ((u : Entry S W Map) → slice_get ts k ≡ Some u → next ≡ index_from (is_from u.place.from u.place.label) (k + 1) ts)
      → next ≡ index_from (is_from q label) (k + 1) ts
  row_next q label k ts next at goes =
      let found = (index_found (is_from q label) k ts k at).0 in
      let parts = and_parts (nat_eq found.item.place.from q) (same_label found.item.place.label label) found.passes in
      goes found.item found.there
      ∙ ap₂ (λ n l. index_from (is_from {S = S} {W = W} {Map = Map} n l) (k + 1) ts) (eqb-true found.item.place.from q parts.0) (same_is found.item.place.label label parts.1)

module _ {S W Map : Type 0} (o : Opening) (ways : Ways) (i q : ℕ) where
  -- the moves by one transition
  abbrev pub one_by : ℕ → Entry S W Map → List Move
  one_by k t = cond (nat_eq t.place.from q) (moves_by o ways i t) []

  pub one_here : (k : ℕ) (t : Entry S W Map) → t.place.from ≡ q → one_by k t ≡ moves_by o ways i t
  one_here k t from = cond-true (nat_eq t.place.from q) (moves_by o ways i t) [] (eq-eqb t.place.from q from)

  -- the moves by all are those by each
  pub by_each : (n : ℕ) (ts : List (Entry S W Map)) → pair_moves o ways i q ts ≡ by_number one_by n ts
  by_each n [] = refl
  by_each n (t ∷ ts) =
      let rest = pair_moves o ways i q ts in
      let here = moves_by o ways i t in
      let first : pair_moves o ways i q (t ∷ ts) ≡ one_by n t ++ rest =
      elim (nat_eq t.place.from q) as (λ c. cond c (here ++ rest) rest ≡ cond c here [] ++ rest) [ true ↦ refl | false ↦ refl ] in
      first ∙ ap (λ ms. one_by n t ++ ms) (by_each (suc n) ts)

  module _ (label : Label) (alone : ReadsAlone ways.edges i label) where
    -- those that read something else have none
    other_label : (t : Entry S W Map) → same_label t.place.label label ≡ false → same_label t.place.label Empty ≡ false → moves_by o ways i t ≡ []
    other_label t e f =
        elim t.place.label as (λ l. same_label l label ≡ false → same_label l Empty ≡ false → (elim l [ Empty ↦ Along i i t.place ∷ [] | Symbol g ↦ edge_moves i g t.place ways.edges ]) ≡ []) [
          | Empty ↦ λ a b. cc
          | Symbol g ↦ λ a b. alone g t.place a
        ] e f

    pub none_else : (k : ℕ) (t : Entry S W Map) → is_from q label t ≡ false → is_from q Empty t ≡ false → one_by k t ≡ []
    none_else k t e f =
        elim (nat_eq t.place.from q) as (λ b. (b && same_label t.place.label label) ≡ false → (b && same_label t.place.label Empty) ≡ false → cond b (moves_by o ways i t) [] ≡ []) [
          | true ↦ λ a b. other_label t a b
          | false ↦ λ a b. refl
        ] e f

-- ---- by the items

drop_past : (i : ℕ) (ys : List Item) → length ys ≤ i → drop i ys ≡ []
drop_past zero [] h = refl
drop_past zero (y ∷ ys) h = absurd (omega (arith, h))
drop_past (suc i) [] h = refl
drop_past (suc i) (y ∷ ys) h = drop_past i ys (omega (arith, h))

module _ (p : PatternValue) (valid : IsPattern p) (i : ℕ) (once : (y : Item) → item_at i p.items ≡ Some y → false ≡ y.star) where
  back_none : (h : ℕ) (x : Place) → back_moves i h x (item_at i p.items) ≡ []
  back_none h x = elim (item_at i p.items) as (λ o. ((y : Item) → o ≡ Some y → false ≡ y.star) → back_moves i h x o ≡ []) [
    | None ↦ λ f. refl
    | Some y ↦ λ f. ap (λ b. cond b (into_moves i h x i y) []) (sym (f y refl))
  ] once

  -- past the last item nothing is read
  pub nothing_past : length p.items ≤ i → ReadsAlone (ways_of p).edges i Empty
  nothing_past past h x other =
      by_items i h x p.items (sets_of p valid)
      ∙ ap₂ (λ a b. a ++ b) (back_none h x) (ap (on_moves i h x (i + 1)) (drop_past i p.items past))

  -- before an item that takes one symbol once, that symbol is read alone
  pub one_alone : (y : Item) (g : ℕ) → slice_get p.items i ≡ Some y → y.star ≡ false → y.set ≡ g ∷ [] → ReadsAlone (ways_of p).edges i (Symbol g)
  one_alone y g at star set h x other =
      let differs : nat_eq g h ≡ false = ne_eqb g h (λ e. let f : true ≡ false = sym (eq-eqb h g (sym e)) ∙ other in cc) in
      let not_in : has_symbol h y.set ≡ false = ap (has_symbol h) set ∙ ap (λ b. b || false) differs in
      let into : into_moves i h x (i + 1) y ≡ [] = ap (λ b. cond b (Along i (i + 1) x ∷ []) []) not_in in
      let above = cond y.star (on_moves i h x (i + 1 + 1) (drop (i + 1) p.items)) [] in
      let none : above ≡ [] = ap (λ b. cond b (on_moves i h x (i + 1 + 1) (drop (i + 1) p.items)) []) star in
      by_items i h x p.items (sets_of p valid)
      ∙ ap₂ (λ a b. a ++ b) (back_none h x) (on_step i h x p.items i y at ∙ ap₂ (λ a b. a ++ b) into none)
