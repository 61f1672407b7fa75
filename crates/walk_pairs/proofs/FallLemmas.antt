-- What entries of a layer give.
use Rattle.std.proofs.Common.{◌≡◌, ℕ, ◌+◌, true, false, List, refl, sym, ap, ap₂, ◌∙◌, subst}
use Rattle.std.specs.Prelude.{Some, None, slice_get, nat_eq}
use Rattle.std.proofs.lemmas.Bool.{and_parts, and_from, eq-eqb, eqb-true, false≢true}
use Rattle.std.proofs.lemmas.Option.{same_Some}
use Rattle.key_rows.specs.Rows.{index_from}
use Rattle.pushdown_rules.proofs.CallerLemmas.{index_found, index_from_start}
use Rattle.semiring_laws.specs.Semiring.{Operations, IsSemiring, Fits, Below}
use Rattle.semiring_laws.proofs.CallerLemmas.{below_zero}
use Rattle.weighted_automata.specs.declared.place.Label.{Label}
use Rattle.weighted_automata.specs.declared.place.Label.TheVariants.{Symbol, Empty}
use Rattle.weighted_automata.specs.declared.place.Place.{Place}
use Rattle.weighted_automata.specs.Places.{same_label, same_place}
use Rattle.weight_tables.specs.Entries.{TableEntry, index_at, is_from, is_out_of, lowered_in, weight_in}
use Rattle.weight_tables.specs.Tables.{TablesValue, AreTables, entries_of, with_entries}
use Rattle.weight_tables.specs.declared.layer.Layer.{Layer}
use Rattle.weight_tables.specs.declared.layer.Layer.TheVariants.{Walk}
use Rattle.weight_tables.proofs.CallerLemmas.{place_fits, index_there, index_place, weight_at_index, none_weight}
use Rattle.walk_pairs.specs.declared.pairs.Order.{Order}
use Rattle.walk_pairs.specs.declared.pairs.Order.TheVariants.{Then, After}
use Rattle.walk_pairs.specs.declared.pairs.Stage.{Stage}
use Rattle.walk_pairs.specs.Pairs.{joined, pair_place, place_over}
use Rattle.walk_pairs.specs.Lowerings.{ArePairsLowered}
use Rattle.config_patterns.specs.declared.edge.Edge.{Edge}
use Rattle.walk_pairs.specs.Giving.{IsKept, IsFallOn, IsFall, worth_over}
use Rattle.walk_pairs.proofs.LoweringLemmas.{one_below}
use Rattle.walk_pairs.proofs.PairLemmas.{same_layer, layer_table, one_pair, pairs_fit, below_later}

label_is : (l : Label) (g : ℕ) → same_label l (Symbol g) ≡ true → l ≡ Symbol g
label_is (Symbol a) g is = ap Symbol (eqb-true a g is)
label_is Empty g is = absurd (false≢true is)

symbol_is : (a b : ℕ) → Symbol a ≡ Symbol b → a ≡ b
symbol_is a b e = cc

module _ {W Map : Type 0} {s : Operations W Map} (laws : IsSemiring s) where
  joined_fits : (order : Order) (a b : W) → Fits s a → Fits s b → Fits s (joined s order a b)
  joined_fits Then a b fa fb = laws.fits-extend a b fa fb
  joined_fits After a b fa fb = laws.fits-extend b a fb fa

  joined_zero : (order : Order) (a : W) → Fits s a → joined s order a s.zero ≡ s.zero
  joined_zero Then a fa = laws.extend-zero_right a fa
  joined_zero After a fa = laws.extend-zero_left a fa

module _ {W : Type 0} where
  -- an entry of a row goes from its state over its symbol
  pub from_row : (c g : ℕ) (e : TableEntry W) → is_from c (Symbol g) e ≡ true → (e.place.from ≡ c) × (e.place.label ≡ Symbol g)
  from_row c g e is =
      let at = and_parts (nat_eq e.place.from c) (same_label e.place.label (Symbol g)) is in
      (eqb-true e.place.from c at.0, label_is e.place.label g at.1)

  in_row : (c g : ℕ) (e : TableEntry W) → e.place.from ≡ c → e.place.label ≡ Symbol g → is_from c (Symbol g) e ≡ true
  in_row c g e from label = and_from (nat_eq e.place.from c) (same_label e.place.label (Symbol g)) (eq-eqb e.place.from c from) (ap (λ l. same_label l (Symbol g)) label ∙ eq-eqb g g refl)

  -- the row of an entry that passes is this one
  pub row_goes_on : (es : List (TableEntry W)) (c g k : ℕ) (e : TableEntry W) → is_from c (Symbol g) e ≡ true → index_from (is_from e.place.from e.place.label) (k + 1) es ≡ index_from (is_from c (Symbol g)) (k + 1) es
  row_goes_on es c g k e is = let at = from_row c g e is in ap₂ (λ a l. index_from (is_from a l) (k + 1) es) at.0 at.1

  pub out_goes_on : (es : List (TableEntry W)) (c k : ℕ) (e : TableEntry W) → is_out_of c e ≡ true → index_from (is_out_of e.place.from) (k + 1) es ≡ index_from (is_out_of c) (k + 1) es
  out_goes_on es c k e is = ap (λ a. index_from (is_out_of a) (k + 1) es) (eqb-true e.place.from c is)

-- what is met of the k-th entry
module _ {S W Map : Type 0} (s : Operations W Map) (v : TablesValue S W Map) (order : Order) (layer : Layer) (stage : Stage) (from : ℕ) (Has : ℕ → Type 0) (next : ℕ) where
  abbrev pub IsEntryMet : List (TableEntry W) → ℕ → Type 0
  IsEntryMet walk k = (e : TableEntry W) → slice_get (entries_of layer v) k ≡ Some e → e.place.from ≡ from → (g : ℕ) → e.place.label ≡ Symbol g → Has g
      → Below s (weight_in s walk (pair_place stage next e.place.to)) (joined s order v.hand e.weight)

  pub out_skips : (walk : List (TableEntry W)) (k : ℕ) → ((e : TableEntry W) → slice_get (entries_of layer v) k ≡ Some e → is_out_of from e ≡ false) → IsEntryMet walk k
  out_skips walk k other e there is g label has = let both : true ≡ false = sym (eq-eqb e.place.from from is) ∙ other e there in absurd (false≢true (sym both))

module _ {S W Map : Type 0} (s : Operations W Map) (v : TablesValue S W Map) (order : Order) (layer : Layer) (stage : Stage) (from g next : ℕ) where
  pub row_skips : (walk : List (TableEntry W)) (k : ℕ) → ((e : TableEntry W) → slice_get (entries_of layer v) k ≡ Some e → is_from from (Symbol g) e ≡ false) → IsEntryMet s v order layer stage from (λ h. h ≡ g) next walk k
  row_skips walk k other e there is h label same =
      let both : true ≡ false = sym (in_row from g e is (label ∙ ap Symbol same)) ∙ other e there in absurd (false≢true (sym both))

module _ {S W Map : Type 0} {s : Operations W Map} (laws : IsSemiring s) (v : TablesValue S W Map) (valid : AreTables s v) (order : Order) (layer : Layer) (stage : Stage) where
  abbrev es : List (TableEntry W)
  es = entries_of layer v

  pub worth_fits : (from g to : ℕ) → Fits s (worth_over s v order layer stage from g to)
  worth_fits from g to = joined_fits laws order v.hand (weight_in s es (place_over from g to)) valid.hand (place_fits s (place_over from g to) es laws.fits-zero (layer_table s layer v valid).fits)

  pub fall_fits : (from : ℕ) (Has : ℕ → Type 0) (next : ℕ) (x : Place) (w : W) → IsFallOn s v order layer stage from Has next x w → Fits s w
  fall_fits from Has next x w is = subst (Fits s) (sym is.weight) (worth_fits from is.symbol is.to)

  place_is : (e : TableEntry W) (g : ℕ) → e.place.label ≡ Symbol g → e.place ≡ place_over e.place.from g e.place.to
  place_is e g label = ap (λ l. let x : Place = record { from = e.place.from; label = l; to = e.place.to } in x) label

  -- an entry has the weight of its place
  pub entry_weight : (t : ℕ) (e : TableEntry W) (g : ℕ) → slice_get es t ≡ Some e → e.place.label ≡ Symbol g → e.weight ≡ weight_in s es (place_over e.place.from g e.place.to)
  entry_weight t e g there label =
      let at = index_there es (layer_table s layer v valid).distinct t e there in
      sym (weight_at_index s e.place es t e at there).0 ∙ ap (weight_in s es) (place_is e g label)

  -- the weight in hand and then an entry's
  pub entry_worth : (t : ℕ) (e : TableEntry W) (g : ℕ) → slice_get es t ≡ Some e → e.place.label ≡ Symbol g → joined s order v.hand e.weight ≡ worth_over s v order layer stage e.place.from g e.place.to
  entry_worth t e g there label = ap (joined s order v.hand) (entry_weight t e g there label)

  -- an entry that is one of those asked for
  pub entry_falls : (Has : ℕ → Type 0) (next t : ℕ) (e : TableEntry W) (g : ℕ) → slice_get es t ≡ Some e → e.place.label ≡ Symbol g → Has g
      → IsFallOn s v order layer stage e.place.from Has next (pair_place stage next e.place.to) (joined s order v.hand e.weight)
  entry_falls Has next t e g there label has = record { symbol = g; to = e.place.to; has = has; place = refl; weight = entry_worth t e g there label }

  -- where each entry is met, each place is
  pub all_met : (from : ℕ) (Has : ℕ → Type 0) (next : ℕ) (walk : List (TableEntry W)) → ((x : Place) → Fits s (weight_in s walk x)) → ((k : ℕ) → IsEntryMet s v order layer stage from Has next walk k)
      → (g : ℕ) → Has g → (to : ℕ) → Below s (weight_in s walk (pair_place stage next to)) (worth_over s v order layer stage from g to)
  all_met from Has next walk fits met g has to =
      let x : Place = place_over from g to in
      let goal : W → Type 0 = Below s (weight_in s walk (pair_place stage next to)) in
      elim (index_at x es) as (λ o. index_at x es ≡ o → goal (worth_over s v order layer stage from g to)) [
        | None ↦ λ none.
            let nothing : worth_over s v order layer stage from g to ≡ s.zero = ap (joined s order v.hand) (none_weight s x es none) ∙ joined_zero laws order v.hand valid.hand in
            subst goal (sym nothing) (below_zero laws (weight_in s walk (pair_place stage next to)) (fits (pair_place stage next to)))
        | Some k ↦ λ some.
            let f = (index_found (λ e. same_place e.place x) 0 es k (sym (index_from_start (λ e. same_place e.place x) es) ∙ some)).0 in
            let is : f.item.place ≡ x = index_place x es k f.item some f.there in
            let from_is : f.item.place.from ≡ from = ap (λ (y : Place). y.from) is in
            let label : f.item.place.label ≡ Symbol g = ap (λ (y : Place). y.label) is in
            let to_is : f.item.place.to ≡ to = ap (λ (y : Place). y.to) is in
            let here = met k f.item f.there from_is g label has in
            let P : ℕ → Type 0 = λ n. Below s (weight_in s walk (pair_place stage next n)) (joined s order v.hand f.item.weight) in
            let weight : joined s order v.hand f.item.weight ≡ worth_over s v order layer stage from g to = ap (joined s order v.hand) (sym (weight_at_index s x es k f.item some f.there).0) in
            subst goal weight (subst P to_is here)
      ] refl

-- One entry after another gives.
module _ {S W Map : Type 0} (operations : S → Operations W Map) (v : TablesValue S W Map) (order : Order) (layer : Layer) (kept : IsKept layer) (stage : Stage) where
  abbrev ours : Operations W Map
  ours = operations v.system.semiring

  -- what one entry made, said of the old tables
  pub fall_made : (v1 v2 : TablesValue S W Map) (next t : ℕ) → v1 ≡ with_entries Walk v1.walk v
      → ((e : TableEntry W) → slice_get (entries_of layer v1) t ≡ Some e
      → v2 ≡ with_entries Walk (lowered_in (operations v1.system.semiring) (pair_place stage next e.place.to) (joined (operations v1.system.semiring) order v1.hand e.weight) v1.walk) v1)
      → (e : TableEntry W) → slice_get (entries_of layer v) t ≡ Some e → v2 ≡ with_entries Walk (lowered_in ours (pair_place stage next e.place.to) (joined ours order v.hand e.weight) v1.walk) v
  fall_made v1 v2 next t others made e there =
      let P : TablesValue S W Map → Type 0 =
      λ u. slice_get (entries_of layer u) t ≡ Some e → v2 ≡ with_entries Walk (lowered_in (operations u.system.semiring) (pair_place stage next e.place.to) (joined (operations u.system.semiring) order u.hand e.weight) u.walk) u in
      subst P others (made e) (ap (λ (es : List (TableEntry W)). slice_get es t) (same_layer layer kept v1.walk v) ∙ there)

module _ {S W Map : Type 0} {s : Operations W Map} (laws : IsSemiring s) (v : TablesValue S W Map) (valid : AreTables s v) (order : Order) (layer : Layer) (stage : Stage) (from : ℕ) (Has : ℕ → Type 0) (next : ℕ) where
  abbrev Is : Place → W → Type 0
  Is = IsFallOn s v order layer stage from Has next

  abbrev fit : (x : Place) (w : W) → Is x w → Fits s w
  fit = fall_fits laws v valid order layer stage from Has next

  pub entry_fits : (k : ℕ) (e : TableEntry W) (g : ℕ) → slice_get (entries_of layer v) k ≡ Some e → e.place.label ≡ Symbol g → Fits s (joined s order v.hand e.weight)
  entry_fits k e g there label = subst (Fits s) (sym (entry_worth laws v valid order layer stage k e g there label)) (worth_fits laws v valid order layer stage e.place.from g e.place.to)

  module _ (v1 : TablesValue S W Map) (one : ArePairsLowered s Is v v1) where
    abbrev between : TablesValue S W Map
    between = with_entries Walk v1.walk v

    -- what was met stays met
    pub entry_later : (v2 : TablesValue S W Map) → ArePairsLowered s Is between v2 → (k : ℕ) → IsEntryMet s v order layer stage from Has next v1.walk k → IsEntryMet s v order layer stage from Has next v2.walk k
    entry_later v2 step k met e there is g label has =
        below_later laws Is fit between (pairs_fit laws Is fit v valid.walk.fits v1 one) v2 step (pair_place stage next e.place.to) (joined s order v.hand e.weight) (entry_fits k e g there label) (met e there is g label has)

    pub all_fit : (x : Place) → Fits s (weight_in s v1.walk x)
    all_fit x = place_fits s x v1.walk laws.fits-zero (pairs_fit laws Is fit v valid.walk.fits v1 one)

    module _ (v2 : TablesValue S W Map) (k : ℕ) (e : TableEntry W) (there : slice_get (entries_of layer v) k ≡ Some e) (g : ℕ) (from_is : e.place.from ≡ from) (label : e.place.label ≡ Symbol g) (has : Has g)
        (made : v2 ≡ with_entries Walk (lowered_in s (pair_place stage next e.place.to) (joined s order v.hand e.weight) v1.walk) v) where
      pub entry_step : ArePairsLowered s Is between v2
      entry_step =
          let P : ℕ → Type 0 = λ c. IsFallOn s v order layer stage c Has next (pair_place stage next e.place.to) (joined s order v.hand e.weight) in
          one_pair s Is (pair_place stage next e.place.to) (joined s order v.hand e.weight) (subst P from_is (entry_falls laws v valid order layer stage Has next k e g there label has)) between v2 made

      pub entry_met : IsEntryMet s v order layer stage from Has next v2.walk k
      entry_met d there' is h label' has' =
          let same : e ≡ d = same_Some e d (sym there ∙ there') in
          let P : TableEntry W → Type 0 = λ u. Below s (weight_in s v2.walk (pair_place stage next u.place.to)) (joined s order v.hand u.weight) in
          subst P same (one_below laws (pair_place stage next e.place.to) (joined s order v.hand e.weight) (entry_fits k e g there label) v1.walk v2.walk (pairs_fit laws Is fit v valid.walk.fits v1 one)
          (ap (λ (u : TablesValue S W Map). u.walk) made))

module _ {S W Map : Type 0} {s : Operations W Map} (laws : IsSemiring s) (v : TablesValue S W Map) (valid : AreTables s v) (order : Order) (layer : Layer) (stage : Stage) (from : ℕ) where
  pub ways_fit : (edges : List Edge) (state : ℕ) (x : Place) (w : W) → IsFall s v order layer stage from edges state x w → Fits s w
  ways_fit edges state x w is = subst (Fits s) (sym is.weight) (worth_fits laws v valid order layer stage from is.symbol is.to)
