-- What entries say as tables of weights.
use Rattle.std.proofs.Common.{◌≡◌, ◌⊎◌, inl, inr, ℕ, Bool, true, false, List, sym, ap, ◌∙◌, subst}
use Rattle.std.specs.Prelude.{Some, slice_get, ◌&&◌, nat_eq, if◌then◌else◌}
use Rattle.std.proofs.lemmas.Bool.{and_from, eq-eqb, cases_Bool}
use Rattle.semiring_laws.specs.Semiring.{Operations, IsSemiring, Fits}
use Rattle.weighted_automata.specs.declared.place.Place.{Place}
use Rattle.weighted_automata.specs.declared.place.Label.TheVariants.{Symbol}
use Rattle.weighted_automata.specs.Places.{same_place}
use Rattle.weighted_automata.proofs.CallerLemmas.{same_place_is, same_place_itself}
use Rattle.value_laws.specs.Settled.{AreWeights}
use Rattle.value_laws.specs.Steps.{is_place, without, IsLowered}
use Rattle.weight_tables.specs.Entries.{TableEntry, IsTable, NoneWaits, taken, lowered_in, settled_in, weight_in}
use Rattle.weight_tables.proofs.CallerLemmas.{index_there, weight_at_index, settled_or_none, all_settled, place_fits, taken_weight, taken_settled, lowered_weight_here, lowered_settled_here, lowered_weight_other, lowered_settled_other}
use Rattle.value_search.specs.Views.{place_at, weights, counting}
use Rattle.value_search.specs.Finds.{IsAt}

same_symbol : (g y : ℕ) → Symbol g ≡ Symbol y → g ≡ y
same_symbol g y e = cc

-- two places over symbols are one exactly where their numbers are
pub apart : (c g q x y z : ℕ) → is_place c g q x y z ≡ false → place_at c g q ≡ place_at x y z → ⊥
apart c g q x y z other same =
    let from : c ≡ x = ap (λ (a : Place). a.from) same in
    let to : q ≡ z = ap (λ (a : Place). a.to) same in
    let symbol : g ≡ y = same_symbol g y (ap (λ (a : Place). a.label) same) in
    let yes : is_place c g q x y z ≡ true = and_from (nat_eq c x) (nat_eq g y && nat_eq q z) (eq-eqb c x from) (and_from (nat_eq g y) (nat_eq q z) (eq-eqb g y symbol) (eq-eqb q z to)) in
    let both : true ≡ false = sym yes ∙ other in
    cc

module _ {W Map : Type 0} (s : Operations W Map) where
  -- what counts is the weight, or nothing
  pub counts_or_none : (es : List (TableEntry W)) (from g to : ℕ) → (counting s es from g to ≡ weights s es from g to) ⊎ (counting s es from g to ≡ s.zero)
  counts_or_none es from g to = settled_or_none s (place_at from g to) es

  -- where nothing waits, all count
  pub all_count : (es : List (TableEntry W)) → NoneWaits es → weights s es ≡ counting s es
  all_count es none = λ j from g to. sym (all_settled s (place_at from g to) es none) j

  -- the weight of the entry of a number
  pub weight_at : (es : List (TableEntry W)) → IsTable s es → (t c g q : ℕ) → IsAt es t (place_at c g q) → (e : TableEntry W) → slice_get es t ≡ Some e → weights s es c g q ≡ e.weight
  weight_at es table t c g q at e there =
      let here = index_there es table.distinct t at.0 at.1 in
      let P : Place → Type 0 = λ x. weight_in s es x ≡ e.weight in
      let Q : Place → Type 0 = λ x. weight_in s es x ≡ at.0.weight in
      let same : Some at.0 ≡ Some e = sym at.1 ∙ there in
      let own : at.0 ≡ e = cc in
      let first : Q at.0.place = (weight_at_index s at.0.place es t at.0 here at.1).0 in
      subst Q at.2 first ∙ ap (λ (f : TableEntry W). f.weight) own

  -- the entry of a number that waits counts for nothing, and its weight is that of its place
  pub entry_counts : (es : List (TableEntry W)) → IsTable s es → (t : ℕ) (e : TableEntry W) → slice_get es t ≡ Some e → (weight_in s es e.place ≡ e.weight) × (settled_in s es e.place ≡ (if e.waits then s.zero else e.weight))
  entry_counts es table t e there = weight_at_index s e.place es t e (index_there es table.distinct t e there) there

module _ {W Map : Type 0} {s : Operations W Map} (laws : IsSemiring s) where
  pub weights_fit : (es : List (TableEntry W)) → IsTable s es → AreWeights s (weights s es)
  weights_fit es table from g to = place_fits s (place_at from g to) es laws.fits-zero table.fits

  pub counting_fits : (es : List (TableEntry W)) → IsTable s es → AreWeights s (counting s es)
  counting_fits es table from g to = elim (counts_or_none s es from g to) [
    | inl e ↦ subst (Fits s) (sym e) (weights_fit es table from g to)
    | inr e ↦ subst (Fits s) (sym e) laws.fits-zero
  ]

  -- a place that was lowered
  pub lowered_view : (es : List (TableEntry W)) → IsTable s es → (c g q : ℕ) (w : W) → Fits s w
      → IsLowered s c g q w (weights s es) (counting s es) (weights s (lowered_in s (place_at c g q) w es)) (counting s (lowered_in s (place_at c g q) w es))
  lowered_view es table c g q w fw =
      let x : Place = place_at c g q in
      record {
        here = lowered_weight_here laws x w fw es table.fits;
        others = λ i j k other. lowered_weight_other laws x w fw (place_at i j k) (apart c g q i j k other) es;
        counts = λ i j k. elim (cases_Bool (same_place x (place_at i j k))) [
          | inl same ↦
              let is : x ≡ place_at i j k = same_place_is x (place_at i j k) same in
              let P : Place → Type 0 = λ y. (settled_in s (lowered_in s x w es) y ≡ settled_in s es y) ⊎ (settled_in s (lowered_in s x w es) y ≡ s.zero) in
              subst P is (lowered_settled_here laws x w fw es table.fits)
          | inr differs ↦ inl (lowered_settled_other laws x w fw (place_at i j k)
              (λ is. let both : true ≡ false = sym (ap (λ y. same_place x y) (sym is) ∙ same_place_itself x) ∙ differs in cc) es)
        ];
      }

  -- an entry that was taken: weights stay, and those of the other places count as before
  pub taken_view : (es : List (TableEntry W)) (t : ℕ) → weights s (taken t es) ≡ weights s es
  taken_view es t = λ j from g to. taken_weight s (place_at from g to) t es j

  pub taken_counts : (es : List (TableEntry W)) (t c g q : ℕ) → IsAt es t (place_at c g q) → (x y z : ℕ)
      → (without s.zero c g q (counting s (taken t es)) x y z ≡ counting s es x y z) ⊎ (without s.zero c g q (counting s (taken t es)) x y z ≡ s.zero)
  taken_counts es t c g q at x y z = elim (cases_Bool (is_place c g q x y z)) [
    | inl is ↦ inr (ap (λ (b : Bool). if b then s.zero else counting s (taken t es) x y z) is)
    | inr other ↦ inl (ap (λ (b : Bool). if b then s.zero else counting s (taken t es) x y z) other
        ∙ taken_settled s (place_at x y z) t es at.0 at.1 (λ same. apart c g q x y z other (sym at.2 ∙ same)))
  ]

  -- one over nothing: all places over symbols count as before
  pub taken_empty : (es : List (TableEntry W)) (t : ℕ) (e : TableEntry W) → slice_get es t ≡ Some e → ((x y z : ℕ) → e.place ≡ place_at x y z → ⊥) → counting s (taken t es) ≡ counting s es
  taken_empty es t e there empty = λ j x y z. taken_settled s (place_at x y z) t es e there (empty x y z) j
