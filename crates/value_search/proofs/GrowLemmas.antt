-- A walk along a row that grows while it is walked.
use Rattle.std.proofs.Common.{◌≡◌, inl, inr, ℕ, zero, suc, ◌+◌, ◌<◌, ◌≤◌, List, [], ◌∷◌, length, refl, sym, ap, ap₂, ◌∙◌, subst, arith}
use Rattle.std.specs.Prelude.{Option, Some, slice_get, Bool, true, false, ◌&&◌, nat_eq}
use Rattle.std.proofs.lemmas.Bool.{cases_lt, and_parts, and_from, eqb-true, eq-eqb}
use Rattle.std.proofs.lemmas.Option.{same_Some, slice_get_within}
use Rattle.weighted_automata.specs.declared.place.Place.{Place}
use Rattle.weighted_automata.specs.declared.place.Label.{Label}
use Rattle.weighted_automata.specs.declared.place.Label.TheVariants.{Symbol, Empty}
use Rattle.weighted_automata.specs.Places.{same_label}
use Rattle.pushdown_rules.proofs.CallerLemmas.{index_found}
use Rattle.weight_tables.specs.Entries.{TableEntry, index_from, is_from}
use Rattle.weight_tables.proofs.CallerLemmas.{IsRowWalk, before_from, walk_at}
use Rattle.value_search.specs.Finds.{KeepPlaces}
use Rattle.value_search.specs.Views.{place_at}

pub stands : {X : Type 0} (xs : List X) (j : ℕ) → j < length xs → (x : X) × (slice_get xs j ≡ Some x)
stands [] j low = absurd (omega (arith, low))
stands (x ∷ xs) zero low = (x, refl)
stands (x ∷ xs) (suc j) low = stands xs j (omega (arith, low))

-- the next of the row, in the longer list
pub walk_grows : {X : Type 0} (p : X → Bool) (xs ys : List X) → ((j : ℕ) (x : X) → slice_get xs j ≡ Some x → (y : X) × (slice_get ys j ≡ Some y) × (p y ≡ p x))
    → (at : Option ℕ) (P Q : ℕ → Type 0) → IsRowWalk p xs at P → (k : ℕ) (next : Option ℕ) → at ≡ Some k → ((j : ℕ) → j < length xs → P j → Q j) → Q k
    → ((j : ℕ) → ((y : X) → slice_get ys j ≡ Some y → p y ≡ false) → Q j) → next ≡ index_from p (k + 1) ys → IsRowWalk p ys next Q
walk_grows p xs ys stays at P Q walk k next is later here skips goes = record {
  from = k + 1;
  stands = goes;
  met = λ j low. elim (cases_lt j walk.from) [
    | inl before ↦
        let f = index_found p walk.from xs k (sym walk.stands ∙ is) in
        let behind : walk.from ≤ k = f.1 in
        let within : k < length xs = slice_get_within xs k f.0.item f.0.there in
        later j (omega (arith, before, behind, within)) (walk.met j before)
    | inr ahead ↦ elim (cases_lt j k) [
      | inl between ↦ skips j
          (λ y there.
          let f = walk_at p xs at P walk k is in
          let within : k < length xs = slice_get_within xs k f.item f.there in
          let x = stands xs j (omega (arith, between, within)) in
          let new = stays j x.0 x.1 in
          let same : new.0 ≡ y = same_Some new.0 y (sym new.1 ∙ there) in
          ap p (sym same) ∙ new.2 ∙ before_from p xs walk.from k j x.0 (sym walk.stands ∙ is) ahead between x.1)
      | inr last ↦ let same : k ≡ j = omega (arith, low, last) in subst Q same here
    ]
  ];
}

label_is : (l : Label) (g : ℕ) → same_label l (Symbol g) ≡ true → l ≡ Symbol g
label_is (Symbol a) g is = ap Symbol (eqb-true a g is)
label_is Empty g is = cc

module _ {W : Type 0} (q h : ℕ) where
  -- an entry of the row stands at a place over its symbol,
  pub row_place : (e : TableEntry W) → is_from q (Symbol h) e ≡ true → e.place ≡ place_at q h e.place.to
  row_place e is =
      let at = and_parts (nat_eq e.place.from q) (same_label e.place.label (Symbol h)) is in
      let new : ℕ → Label → Place = λ f l. record { from = f; label = l; to = e.place.to } in
      ap₂ new (eqb-true e.place.from q at.0) (label_is e.place.label h at.1)

  -- and one at such a place is of the row
  pub place_row : (e : TableEntry W) (to : ℕ) → e.place ≡ place_at q h to → is_from q (Symbol h) e ≡ true
  place_row e to is =
      ap (λ (x : Place). nat_eq x.from q && same_label x.label (Symbol h)) is
      ∙ and_from (nat_eq q q) (nat_eq h h) (eq-eqb q q refl) (eq-eqb h h refl)

  -- what keeps its place keeps its row
  pub row_stays : (es es' : List (TableEntry W)) → KeepPlaces es es' → (j : ℕ) (e : TableEntry W) → slice_get es j ≡ Some e
      → (e' : TableEntry W) × (slice_get es' j ≡ Some e') × (is_from q (Symbol h) e' ≡ is_from q (Symbol h) e)
  row_stays es es' keep j e there =
      let new = keep j e there in
      (new.0, new.1, ap (λ (x : Place). nat_eq x.from q && same_label x.label (Symbol h)) new.2)

  -- the row of an entry of this row is this one
  pub row_goes_on : (es : List (TableEntry W)) (t : ℕ) (e : TableEntry W) → is_from q (Symbol h) e ≡ true → (next : Option ℕ)
      → next ≡ index_from (is_from e.place.from e.place.label) (t + 1) es → next ≡ index_from (is_from q (Symbol h)) (t + 1) es
  row_goes_on es t e is next goes =
      let place = row_place e is in
      let from : e.place.from ≡ q = ap (λ (x : Place). x.from) place in
      let label : e.place.label ≡ Symbol h = ap (λ (x : Place). x.label) place in
      goes ∙ ap₂ (λ a l. index_from (is_from a l) (t + 1) es) from label
