-- Where nothing waits, the weights are closed and sound, as the laws say it of rows and sources.
use Rattle.std.proofs.Common.{◌≡◌, ◌≢◌, ℕ, ◌≤◌, List, [], ◌∷◌, length, refl, sym, ap, ap₂, ◌∙◌, subst, arith}
use Rattle.std.specs.Prelude.{Option, None, Some, slice_get, unwrap_or}
use Rattle.wpds_base.specs.Lists.{IsIn}
use Rattle.semiring_laws.specs.Semiring.{Operations, IsSemiring, Fits, Below}
use Rattle.semiring_laws.proofs.CallerLemmas.{below_itself}
use Rattle.weighted_automata.specs.declared.place.Label.{Label}
use Rattle.weighted_automata.specs.declared.place.Label.TheVariants.{Symbol, Empty}
use Rattle.weighted_automata.specs.declared.place.Place.{Place}
use Rattle.pushdown_rules.specs.declared.rule.Rule.{Rule}
use Rattle.pushdown_rules.specs.Configuration.{Configuration, at_stack}
use Rattle.pushdown_rules.specs.Pushdown.{Pushdown, IsSystem}
use Rattle.pushdown_rules.specs.Values.{value_of}
use Rattle.pushdown_rules.proofs.CallerLemmas.{weight_fits, map_fits, value_fits}
use Rattle.config_patterns.specs.declared.edge.Edge.{Edge}
use Rattle.value_laws.specs.Runs.{Sums}
use Rattle.value_laws.proofs.CallerLemmas.{sums_none}
use Rattle.forward_value_laws.specs.Model.{Source, item, callee, head_of, Comes, IsSound, IsClosed}
use Rattle.forward_value_laws.specs.Settling.{call_weight}
use Rattle.forward_value_search.specs.Places.{label_of, number_of, place_by, place_of, short_label, arrow, row_weights}
use Rattle.forward_value_search.specs.Settled.{head_at, SumsAt, IsSettled, AreWeights}
use Rattle.forward_value_search.proofs.NumberLemmas.{item_number, callee_number}
use Rattle.forward_value_search.proofs.SumLemmas.{short_is}

module _ {S W Map : Type 0} {operations : S → Operations W Map} {p : Pushdown S W Map} (valid : IsSystem operations p) (laws : IsSemiring (operations p.semiring)) (items start : ℕ) (edges : List Edge)
    (weight : Place → W) (fw : AreWeights (operations p.semiring) weight) where
  abbrev s : Operations W Map
  s = operations p.semiring

  abbrev rows : Configuration → Source → W
  rows = row_weights s.zero items p weight

  abbrev by_place : Option Place → W
  by_place o = elim o [ None ↦ s.zero | Some x ↦ weight x ]

  fits_by : (o : Option Place) → Fits s (by_place o)
  fits_by None = laws.fits-zero
  fits_by (Some x) = fw x

  -- a weight by the number of its source
  by_number : (row : Configuration) (l : Label) → label_of row.stack ≡ Some l → (from : Source) (n : ℕ) → number_of items p from ≡ Some n → rows row from ≡ weight (arrow row.control l n)
  by_number row l label from n number = ap₂ (λ a b. by_place (place_by row.control a b)) label number

  -- and of a source that has none
  nowhere : (row : Configuration) (from : Source) → number_of items p from ≡ None → rows row from ≡ s.zero
  nowhere row from none = ap (λ b. by_place (place_by row.control (label_of row.stack) b)) none ∙ elim (label_of row.stack) as (λ l. by_place (place_by row.control l None) ≡ s.zero) [ None ↦ refl | Some l ↦ refl ]

  sums_by : ((x : Place) → SumsAt s p items start edges x (weight x)) → (row : Configuration) (from : Source) → length row.stack ≤ 1 → (o : Option Place) → place_of items p row from ≡ o
      → Sums s (value_of s p) (Comes p start edges row from) (by_place o)
  sums_by sums row from few None is = sums_none laws (value_of s p) (λ run. value_fits valid laws run) (Comes p start edges row from)
  sums_by sums row from few (Some x) is = sums x row from few is

  pub sums_sound : ((x : Place) → SumsAt s p items start edges x (weight x)) → IsSound s p start edges rows
  sums_sound sums = record { sums = λ row from few. sums_by sums row from few (place_of items p row from) refl }

  module _ (within : (e : Edge) → IsIn e edges → (e.from ≤ items) × (e.to ≤ items)) (is : IsSettled s p items start edges weight weight) where
    module _ (k : ℕ) (r : Rule S W Map) (there : slice_get p.rules k ≡ Some r) where
      fr : Fits s r.weight
      fr = weight_fits valid laws k r there

      step_by : length r.right ≤ 1 → (from : Source) (o : Option ℕ) → number_of items p from ≡ o → Below s (rows (at_stack r.to r.right) from) (s.extend (rows (head_of r) from) r.weight)
      step_by few from None number =
          let P : W → Type 0 = λ v. Below s v (s.extend (rows (head_of r) from) r.weight) in
          let Q : W → Type 0 = λ v. Below s s.zero (s.extend v r.weight) in
          let R : W → Type 0 = Below s s.zero in
          subst P (sym (nowhere (at_stack r.to r.right) from number)) (subst Q (sym (nowhere (head_of r) from number)) (subst R (sym (laws.extend-zero_left r.weight fr)) (below_itself laws s.zero laws.fits-zero)))
      step_by few from (Some n) number =
          let P : W → Type 0 = λ v. Below s v (s.extend (rows (head_of r) from) r.weight) in
          let Q : W → Type 0 = λ v. Below s (weight (arrow r.to (short_label r.right) n)) (s.extend v r.weight) in
          subst P (sym (by_number (at_stack r.to r.right) (short_label r.right) (short_is r.right few) from n number))
          (subst Q (sym (by_number (head_of r) (Symbol r.symbol) refl from n number)) ((is.rules k r there n).steps few))

      enter_by : (g h : ℕ) → r.right ≡ g ∷ h ∷ [] → (from : Source) (o : Option ℕ) → number_of items p from ≡ o → rows (head_of r) from ≢ s.zero
          → Below s (rows (at_stack r.to (g ∷ [])) (callee r.to g)) s.one
      enter_by g h right from None number some = absurd (some (nowhere (head_of r) from number))
      enter_by g h right from (Some n) number some =
          let m = callee_number items p k r there g (h ∷ []) right in
          let P : W → Type 0 = λ v. Below s v s.one in
          subst P (sym (by_number (at_stack r.to (g ∷ [])) (Symbol g) refl (callee r.to g) m.0 m.1))
          ((is.rules k r there n).enters g h right m.0 m.1 (λ z. some (by_number (head_of r) (Symbol r.symbol) refl from n number ∙ z)))

      return_by : (g h : ℕ) → r.right ≡ g ∷ h ∷ [] → (q : ℕ) (from : Source) (o : Option ℕ) → number_of items p from ≡ o
          → Below s (rows (at_stack q (h ∷ [])) from) (s.extend (rows (head_of r) from) (call_weight s r (rows (at_stack q []) (callee r.to g))))
      return_by g h right q from None number =
          let end = rows (at_stack q []) (callee r.to g) in
          let fe = fits_by (place_of items p (at_stack q []) (callee r.to g)) in
          let fc = laws.fits-after (unwrap_or r.map s.plain) (s.extend r.weight end) (map_fits valid laws k r there g h right) (laws.fits-extend r.weight end fr fe) in
          let P : W → Type 0 = λ v. Below s v (s.extend (rows (head_of r) from) (call_weight s r end)) in
          let Q : W → Type 0 = λ v. Below s s.zero (s.extend v (call_weight s r end)) in
          let R : W → Type 0 = Below s s.zero in
          subst P (sym (nowhere (at_stack q (h ∷ [])) from number)) (subst Q (sym (nowhere (head_of r) from number)) (subst R (sym (laws.extend-zero_left (call_weight s r end) fc)) (below_itself laws s.zero laws.fits-zero)))
      return_by g h right q from (Some n) number =
          let m = callee_number items p k r there g (h ∷ []) right in
          let P : W → Type 0 = λ v. Below s v (s.extend (rows (head_of r) from) (call_weight s r (rows (at_stack q []) (callee r.to g)))) in
          let Q : W → Type 0 = λ v. Below s (weight (arrow q (Symbol h) n)) (s.extend v (call_weight s r (rows (at_stack q []) (callee r.to g)))) in
          let R : W → Type 0 = λ v. Below s (weight (arrow q (Symbol h) n)) (s.extend (weight (head_at r n)) (call_weight s r v)) in
          subst P (sym (by_number (at_stack q (h ∷ [])) (Symbol h) refl from n number))
          (subst Q (sym (by_number (head_of r) (Symbol r.symbol) refl from n number))
          (subst R (sym (by_number (at_stack q []) Empty refl (callee r.to g) m.0 m.1)) ((is.rules k r there n).returns g h right m.0 m.1 q)))

    pub settled_closed : IsClosed s p start edges rows
    settled_closed = record {
      fits = λ row from. fits_by (place_of items p row from);
      starts =
          let P : W → Type 0 = λ v. Below s v s.one in
          subst P (sym (by_number (at_stack start []) Empty refl (item 0) 0 (item_number items p 0 (omega arith)))) is.starts;
      uncovers = λ q i g j edge.
          let few = within (record { from = i; symbol = g; to = j }) edge in
          let P : W → Type 0 = λ v. Below s v (rows (at_stack q []) (item i)) in
          let Q : W → Type 0 = Below s (weight (arrow q (Symbol g) j)) in
          subst P (sym (by_number (at_stack q (g ∷ [])) (Symbol g) refl (item j) j (item_number items p j few.1)))
          (subst Q (sym (by_number (at_stack q []) Empty refl (item i) i (item_number items p i few.0))) (is.reads q i g j edge));
      steps = λ k r there few from. step_by k r there few from (number_of items p from) refl;
      enters = λ k r there g h right from some. enter_by k r there g h right from (number_of items p from) refl some;
      returns = λ k r there g h right q from. return_by k r there g h right q from (number_of items p from) refl;
    }
