-- What goes on where a callee ends, and what a call that stays open is read by.
use Rattle.std.proofs.Common.{◌≡◌, ℕ, ◌+◌, ◌-◌, ◌^◌, ◌<◌, List, [], ◌∷◌, length, refl, sym, ap, ◌∙◌, subst, arith}
use Rattle.std.specs.Prelude.{Option, None, Some, slice_get, Bool, false, true, is_some, ◌&&◌, nat_eq}
use Rattle.std.proofs.lemmas.Option.{same_Some, slice_get_within}
use Rattle.semiring_laws.specs.Semiring.{Operations, IsSemiring, Below}
use Rattle.weighted_automata.specs.declared.place.Place.{Place}
use Rattle.weighted_automata.specs.declared.place.Label.TheVariants.{Symbol}
use Rattle.pushdown_rules.specs.declared.rule.Rule.{Rule}
use Rattle.pushdown_rules.specs.Pushdown.{Pushdown, IsSystem}
use Rattle.pushdown_rules.proofs.CallerLemmas.{index_found, index_from_start, IsFound}
use Rattle.weighted_automata.specs.Places.{same_label, same_place}
use Rattle.value_laws.specs.Settled.{first_worth, returned_worth}
use Rattle.value_laws.specs.Steps.{IsFurther}
use Rattle.value_laws.proofs.CallerLemmas.{first_kept, returned_kept}
use Rattle.weight_tables.specs.Entries.{TableEntry, IsTable, index_at, index_from, is_from}
use Rattle.weight_tables.proofs.CallerLemmas.{index_place, none_settled, to_go}
use Rattle.value_search.specs.Views.{place_at, weights, counting}
use Rattle.value_search.specs.Finds.{KeepPlaces}
use Rattle.value_search.specs.Met.{IsPushMet}
use Rattle.value_search.proofs.ViewLemmas.{weights_fit, counting_fits}
use Rattle.value_search.proofs.GrowLemmas.{place_row, stands}
use Rattle.value_search.proofs.MeetLemmas.{nothing_goes_on}

module _ {S W Map : Type 0} (s : Operations W Map) (p : Pushdown S W Map) where
  -- a push rule, with its callee's transition and the entry of a number, where it goes on from where that ends
  abbrev pub IsSecondMet : ℕ → ℕ → ℕ → ℕ → ℕ → List (TableEntry W) → ℕ → Type 0
  IsSecondMet k c g q h es j = (r : Rule S W Map) → slice_get p.rules k ≡ Some r → r.right ≡ g ∷ h ∷ [] → r.to ≡ c
      → (e : TableEntry W) → slice_get es j ≡ Some e → is_from q (Symbol h) e ≡ true
      → Below s (weights s es r.control r.symbol e.place.to) (returned_worth s r (counting s es c g q) (counting s es q h e.place.to))

  -- a push rule whose call stays open, and a state to which the symbol below is read
  abbrev pub IsOpenMet : ℕ → ℕ → ℕ → ℕ → List (TableEntry W) → ℕ → Type 0
  IsOpenMet k c g q es to = (r : Rule S W Map) → slice_get p.rules k ≡ Some r → Below s (weights s es r.control r.symbol to) (first_worth s r (counting s es c g q))

module _ {W : Type 0} where
  -- an entry that stands where another of the list stood passes as that does
  place_test : (q h : ℕ) (e f : TableEntry W) → e.place ≡ f.place → is_from q (Symbol h) e ≡ true → is_from q (Symbol h) f ≡ true
  place_test q h e f same is = ap (λ (x : Place). nat_eq x.from q && same_label x.label (Symbol h)) (sym same) ∙ is

  pub passes_kept : (q h : ℕ) (e f : TableEntry W) → e.place ≡ f.place → is_from q (Symbol h) f ≡ true → is_from q (Symbol h) e ≡ true
  passes_kept q h e f same is = place_test q h f e (sym same) is

  -- what is found stands there
  pub found_entry : (x : Place) (es : List (TableEntry W)) (j : ℕ) → index_at x es ≡ Some j → (e : TableEntry W) × (slice_get es j ≡ Some e)
  found_entry x es j at = let f = (index_found (λ (e : TableEntry W). same_place e.place x) 0 es j (sym (index_from_start (λ (e : TableEntry W). same_place e.place x) es) ∙ at)).0 in (f.item, f.there)

module _ {S W Map : Type 0} {operations : S → Operations W Map} {p : Pushdown S W Map} (valid : IsSystem operations p) (laws : IsSemiring (operations p.semiring)) where
  abbrev s : Operations W Map
  s = operations p.semiring

  -- an entry that is none of the row asks for nothing
  pub second_skips : (k c g q h : ℕ) (es : List (TableEntry W)) (j : ℕ) → ((e : TableEntry W) → slice_get es j ≡ Some e → is_from q (Symbol h) e ≡ false) → IsSecondMet s p k c g q h es j
  second_skips k c g q h es j other r there right to e at is = absurd (let both : true ≡ false = sym is ∙ other e at in let no : ⊥ = cc in no)

  module _ (es es' : List (TableEntry W)) (table : IsTable s es) (table' : IsTable s es') (further : IsFurther s (weights s es) (counting s es) (weights s es') (counting s es')) where
    -- what is met stays met
    pub second_later : (places : KeepPlaces es es') → (k c g q h j : ℕ) → j < length es → IsSecondMet s p k c g q h es j → IsSecondMet s p k c g q h es' j
    second_later places k c g q h j low met r there right to e' at is =
        let old = stands es j low in
        let new = places j old.0 old.1 in
        let same : Some new.0 ≡ Some e' = sym new.1 ∙ at in
        let own : new.0 ≡ e' = cc in
        let place : e'.place ≡ old.0.place = ap (λ (f : TableEntry W). f.place) (sym own) ∙ new.2 in
        let end : ℕ = e'.place.to in
        let P : Place → Type 0 = λ x. Below s (weights s es r.control r.symbol x.to) (returned_worth s r (counting s es c g q) (counting s es q h x.to)) in
        let passes : is_from q (Symbol h) old.0 ≡ true = place_test q h e' old.0 place is in
        returned_kept valid laws k r there g h right (weights s es r.control r.symbol end) (weights s es' r.control r.symbol end) (counting s es c g q) (counting s es' c g q) (counting s es q h end) (counting s es' q h end)
        (weights_fit laws es table r.control r.symbol end) (weights_fit laws es' table' r.control r.symbol end) (counting_fits laws es table c g q) (counting_fits laws es' table' c g q) (counting_fits laws es table q h end) (counting_fits laws es' table' q h end)
        (further.falls r.control r.symbol end) (further.counts c g q) (further.counts q h end) (subst P (sym place) (met r there right to old.0 old.1 passes))

    pub open_later : (k c g q to : ℕ) → IsOpenMet s p k c g q es to → IsOpenMet s p k c g q es' to
    open_later k c g q to met r there =
        first_kept valid laws k r there (weights s es r.control r.symbol to) (weights s es' r.control r.symbol to) (counting s es c g q) (counting s es' c g q)
        (weights_fit laws es table r.control r.symbol to) (weights_fit laws es' table' r.control r.symbol to) (counting_fits laws es table c g q) (further.falls r.control r.symbol to) (further.counts c g q) (met r there)

  -- once each entry of the row is met, each end is
  pub all_seconds : (k c g q h : ℕ) (es : List (TableEntry W)) → IsTable s es → ((j : ℕ) → IsSecondMet s p k c g q h es j) → (r : Rule S W Map) → slice_get p.rules k ≡ Some r → r.right ≡ g ∷ h ∷ [] → r.to ≡ c → IsPushMet s p None r c g q h es
  all_seconds k c g q h es table met r there right to end =
      elim (index_at (place_at q h end) es) as (λ o. index_at (place_at q h end) es ≡ o → Below s (weights s es r.control r.symbol end) (returned_worth s r (counting s es c g q) (counting s es q h end))) [
        | None ↦ λ none. nothing_goes_on valid laws k r there g h right (weights s es r.control r.symbol end) (weights_fit laws es table r.control r.symbol end) (counting s es c g q) (counting s es q h end)
            (counting_fits laws es table c g q) (none_settled s (place_at q h end) es none)
        | Some j ↦ λ at.
            let e = found_entry (place_at q h end) es j at in
            let place : e.0.place ≡ place_at q h end = index_place (place_at q h end) es j e.0 at e.1 in
            let is : e.0.place.to ≡ end = ap (λ (x : Place). x.to) place in
            let P : ℕ → Type 0 = λ i. Below s (weights s es r.control r.symbol i) (returned_worth s r (counting s es c g q) (counting s es q h i)) in
            subst P is (met j r there right to e.0 e.1 (place_row q h e.0 end place))
      ] refl

-- the entry of a number that is found passes
pub passes_at : {X : Type 0} (p : X → Bool) (xs : List X) (k : ℕ) → IsFound p xs k → (x : X) → slice_get xs k ≡ Some x → p x ≡ true
passes_at p xs k f x there = ap p (same_Some x f.item (sym there ∙ f.there)) ∙ f.passes

-- fewer entries are left to go over
pub fewer_ahead : {X : Type 0} (p : X → Bool) (xs : List X) (k : ℕ) (next : Option ℕ) → k < length xs → length xs < 2 ^ 32 → next ≡ index_from p (k + 1) xs → to_go (2 ^ 32) next < to_go (2 ^ 32) (Some k)
fewer_ahead p xs k next low few goes = elim next as (λ o. o ≡ index_from p (k + 1) xs → to_go (2 ^ 32) o < 2 ^ 32 - k) [
  | None ↦ λ e. omega (arith, low, few)
  | Some m ↦ λ e.
      let f = index_found p (k + 1) xs m (sym e) in
      let more = f.1 in
      let last = slice_get_within xs m f.0.item f.0.there in
      omega (arith, low, few, more, last)
] goes

module _ {S W Map : Type 0} (s : Operations W Map) (p : Pushdown S W Map) where
  -- one entry of the row was met: what stands at its number now has its place
  pub second_met : (k c g q h t : ℕ) (es es' : List (TableEntry W)) → KeepPlaces es es' → (e : TableEntry W) → slice_get es t ≡ Some e
      → ((r : Rule S W Map) → slice_get p.rules k ≡ Some r → (e : TableEntry W) → slice_get es t ≡ Some e → Below s (weights s es' r.control r.symbol e.place.to) (returned_worth s r (counting s es' c g q) (counting s es' q h e.place.to)))
      → IsSecondMet s p k c g q h es' t
  second_met k c g q h t es es' places e at given r there right to e' at' is =
      let new = places t e at in
      let same : new.0 ≡ e' = same_Some new.0 e' (sym new.1 ∙ at') in
      let place : e.place ≡ e'.place = sym new.2 ∙ ap (λ (f : TableEntry W). f.place) same in
      let P : Place → Type 0 = λ x. Below s (weights s es' r.control r.symbol x.to) (returned_worth s r (counting s es' c g q) (counting s es' q h x.to)) in
      subst P place (given r there e at)

pub none_is : (o : Option ℕ) → is_some o ≡ false → o ≡ None
none_is None is = refl
none_is (Some k) is = cc
