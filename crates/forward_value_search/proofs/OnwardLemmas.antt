-- What a lowering does to a search: it goes on.
use Rattle.std.proofs.Common.{◌≡◌, ◌⊎◌, inl, inr, ℕ, true, List, length, refl, sym, ap, ◌∙◌, subst, arith}
use Rattle.std.specs.Prelude.{Some, slice_get, if◌then◌else◌}
use Rattle.semiring_laws.specs.Semiring.{Operations, IsSemiring, Fits, Below}
use Rattle.semiring_laws.proofs.CallerLemmas.{below_itself, below_zero, combine_below_left, combine_below_right}
use Rattle.weighted_automata.specs.declared.place.Place.{Place}
use Rattle.pushdown_rules.specs.Pushdown.{Pushdown, IsSystem}
use Rattle.config_patterns.specs.Edges.{edges_of}
use Rattle.config_patterns.specs.Membership.{PatternValue}
use Rattle.weight_tables.specs.Entries.{TableEntry, IsTable, lowered_in}
use Rattle.weight_tables.specs.Tables.{TablesValue, AreTables, with_entries, with_hand}
use Rattle.weight_tables.specs.declared.layer.Layer.TheVariants.{Base}
use Rattle.weight_tables.proofs.CallerLemmas.{KeepPlaces, index_there, weight_at_index, settled_or_none, place_fits, lowered_weight_here, lowered_weight_other, lowered_settled_here, lowered_settled_other, lowered_places, lowered_turns}
use Rattle.forward_value_search.specs.Settled.{AreWeights}
use Rattle.forward_value_search.specs.Search.{StandsAt, KeepsNumbers, HasSums, weights, settled, IsReady, IsOnward}
use Rattle.forward_value_search.proofs.SettledLemmas.{place_or, further_itself, further_then}
use Rattle.forward_value_search.proofs.SumLemmas.{combine_at}

keeps_numbers : {W : Type 0} (old new : List (TableEntry W)) → KeepPlaces old new → KeepsNumbers old new
keeps_numbers old new keep t x at = let next = keep t at.0 at.1 in (next.0, next.1, next.2 ∙ at.2)

module _ {S W Map : Type 0} {operations : S → Operations W Map} {p : Pushdown S W Map} (valid : IsSystem operations p) (laws : IsSemiring (operations p.semiring)) (first : PatternValue) where
  abbrev s : Operations W Map
  s = operations p.semiring

  abbrev Ready : TablesValue S W Map → Type 0
  Ready v = IsReady operations p first v

  abbrev Onward : TablesValue S W Map → TablesValue S W Map → Type 0
  Onward old new = IsOnward operations p first old new

  abbrev weight : TablesValue S W Map → Place → W
  weight v = weights operations p first v

  abbrev counting : TablesValue S W Map → Place → W
  counting v = settled operations p first v

  pub weights_fit : (v : TablesValue S W Map) → Ready v → AreWeights s (weight v)
  weights_fit v ready x = place_fits s x v.base laws.fits-zero ready.table.fits

  pub counting_fit : (v : TablesValue S W Map) → Ready v → AreWeights s (counting v)
  counting_fit v ready x = elim (settled_or_none s x v.base) [
    | inl same ↦ subst (Fits s) (sym same) (weights_fit v ready x)
    | inr none ↦ subst (Fits s) (sym none) laws.fits-zero
  ]

  pub onward_itself : (v : TablesValue S W Map) → Ready v → Onward v v
  onward_itself v ready = record {
    ready = ready;
    further = further_itself laws (weight v) (counting v) (weights_fit v ready);
    numbers = λ t x at. at;
    fewer = omega arith;
    target = refl;
    walk = refl;
  }

  pub onward_then : (a b c : TablesValue S W Map) → Ready a → Onward a b → Onward b c → Onward a c
  onward_then a b c ready one two =
      let few = one.fewer in
      let fewer = two.fewer in
      record {
        ready = two.ready;
        further = further_then laws (weight a) (counting a) (weight b) (counting b) (weight c) (counting c) (weights_fit a ready) (weights_fit b one.ready) (weights_fit c two.ready) one.further two.further;
        numbers = λ t x at. two.numbers t x (one.numbers t x at);
        fewer = omega (arith, few, fewer);
        target = two.target ∙ one.target;
        walk = two.walk ∙ one.walk;
      }

  -- another weight in hand
  pub onward_held : (v : TablesValue S W Map) → Ready v → (w : W) → Fits s w → Onward v (with_hand w v)
  onward_held v ready w fw =
      let now : Ready (with_hand w v) = record { system = ready.system; hand = fw; table = ready.table; sums = ready.sums } in
      record {
        ready = now;
        further = further_itself laws (weight v) (counting v) (weights_fit v ready);
        numbers = λ t x at. at;
        fewer = omega arith;
        target = refl;
        walk = refl;
      }

  pub onward_is : (v new : TablesValue S W Map) → Ready v → (w : W) → Fits s w → new ≡ with_hand w v → Onward v new
  onward_is v new ready w fw is = let P : TablesValue S W Map → Type 0 = Onward v in subst P (sym is) (onward_held v ready w fw)

  -- what is known of the tables' own system
  pub at_system : (v : TablesValue S W Map) → Ready v → (P : Pushdown S W Map → Type 0) → P v.system → P p
  at_system v ready P is = subst P ready.system is

  pub of_system : (v : TablesValue S W Map) → Ready v → (P : Pushdown S W Map → Type 0) → P p → P v.system
  of_system v ready P is = subst P (sym ready.system) is

  -- the weight of a place by the number of its entry
  pub entry_weight : (v : TablesValue S W Map) → Ready v → (t : ℕ) (x : Place) (e : TableEntry W) → slice_get v.base t ≡ Some e → e.place ≡ x → e.weight ≡ weight v x
  entry_weight v ready t x e there at =
      let is = weight_at_index s e.place v.base t e (index_there v.base ready.table.distinct t e there) there in
      sym is.0 ∙ ap (weight v) at

  -- an entry that waits counts for nothing
  pub waiting_counts : (v : TablesValue S W Map) → Ready v → (t : ℕ) (x : Place) (e : TableEntry W) → slice_get v.base t ≡ Some e → e.place ≡ x → e.waits ≡ true → counting v x ≡ s.zero
  waiting_counts v ready t x e there at waits =
      let is = weight_at_index s e.place v.base t e (index_there v.base ready.table.distinct t e there) there in
      ap (counting v) (sym at) ∙ is.1 ∙ ap (λ b. if b then s.zero else e.weight) waits

  module _ (v : TablesValue S W Map) (ready : Ready v) (x : Place) (w : W) (fw : Fits s w) (sums : HasSums operations p first x w) where
    abbrev lower : TablesValue S W Map
    lower = with_entries Base (lowered_in s x w v.base) v

    here : weight lower x ≡ s.combine (weight v x) w
    here = lowered_weight_here laws x w fw v.base ready.table.fits

    other : (y : Place) → (x ≡ y → ⊥) → weight lower y ≡ weight v y
    other y differs = lowered_weight_other laws x w fw y differs v.base

    -- a weight came to a place
    lower_onward : IsTable s (lowered_in s x w v.base) → Onward v lower
    lower_onward table =
        let fit = weights_fit v ready in
        let few = table.few in
        let now : Ready lower = record {
          system = ready.system;
          hand = ready.hand;
          table = table;
          sums = λ y. elim (place_or x y) [
            | inl is ↦
                let P : Place → Type 0 = λ z. HasSums operations p first z (weight lower z) in
                let Q : W → Type 0 = HasSums operations p first x in
                subst P is (subst Q (sym here) (combine_at valid laws (length first.items) first.control (edges_of first.items) x (weight v x) w (ready.sums x) sums))
            | inr differs ↦ let Q : W → Type 0 = HasSums operations p first y in subst Q (sym (other y differs)) (ready.sums y)
          ];
        } in
        record {
          ready = now;
          further = record {
            falls = λ y. elim (place_or x y) [
              | inl is ↦
                  let P : Place → Type 0 = λ z. Below s (weight lower z) (weight v z) in
                  let Q : W → Type 0 = λ u. Below s u (weight v x) in
                  subst P is (subst Q (sym here) (combine_below_left laws (weight v x) w (fit x) fw))
              | inr differs ↦ let Q : W → Type 0 = λ u. Below s u (weight v y) in subst Q (sym (other y differs)) (below_itself laws (weight v y) (fit y))
            ];
            counts = λ y. elim (place_or x y) [
              | inl is ↦
                  let P : Place → Type 0 = λ z. (counting lower z ≡ counting v z) ⊎ (counting lower z ≡ s.zero) in
                  subst P is (lowered_settled_here laws x w fw v.base ready.table.fits)
              | inr differs ↦ inl (lowered_settled_other laws x w fw y differs v.base)
            ];
          };
          numbers = keeps_numbers v.base (lowered_in s x w v.base) (lowered_places laws x w fw v.base);
          fewer = lowered_turns laws x w v.base ready.table.fits fw (omega (arith, few));
          target = refl;
          walk = refl;
        }

    lower_below : Below s (weight lower x) w
    lower_below = let Q : W → Type 0 = λ u. Below s u w in subst Q (sym here) (combine_below_right laws (weight v x) w (weights_fit v ready x) fw)

    -- as the tables say it
    pub lowered : (new : TablesValue S W Map) → new ≡ with_entries Base (lowered_in (operations v.system.semiring) x w v.base) v → AreTables (operations new.system.semiring) new
        → Onward v new × Below s (weight new x) w × (new.hand ≡ v.hand)
    lowered new is tables =
        let same : new ≡ lower = at_system v ready (λ q. new ≡ with_entries Base (lowered_in (operations q.semiring) x w v.base) v) is in
        let Table : TablesValue S W Map → Type 0 = λ u. AreTables (operations u.system.semiring) u in
        let there : AreTables (operations v.system.semiring) lower = subst Table same tables in
        let table : IsTable s (lowered_in s x w v.base) = (at_system v ready (λ q. AreTables (operations q.semiring) lower) there).base in
        let Done : TablesValue S W Map → Type 0 = λ u. Onward v u × Below s (weight u x) w × (u.hand ≡ v.hand) in
        subst Done (sym same) (lower_onward table, lower_below, refl)

  -- the same of a weight that was put behind that of an entry
  pub lowered_after : (v : TablesValue S W Map) → Ready v → (x entry : Place) (t : ℕ) → StandsAt t entry v.base → HasSums operations p first x (s.extend (weight v entry) v.hand) → (new : TablesValue S W Map)
      → ((e : TableEntry W) → slice_get v.base t ≡ Some e → new ≡ with_entries Base (lowered_in (operations v.system.semiring) x ((operations v.system.semiring).extend e.weight v.hand) v.base) v)
      → AreTables (operations new.system.semiring) new
      → Onward v new × Below s (weight new x) (s.extend (weight v entry) v.hand) × (new.hand ≡ v.hand)
  lowered_after v ready x entry t there sums new is tables =
      let e = there.0 in
      let of_v = operations v.system.semiring in
      let same : of_v.extend e.weight v.hand ≡ s.extend (weight v entry) v.hand =
      at_system v ready (λ q. of_v.extend e.weight v.hand ≡ (operations q.semiring).extend e.weight v.hand) refl
      ∙ ap (λ u. s.extend u v.hand) (entry_weight v ready t entry e there.1 there.2) in
      let P : W → Type 0 = λ u. new ≡ with_entries Base (lowered_in of_v x u v.base) v in
      lowered v ready x (s.extend (weight v entry) v.hand) (laws.fits-extend (weight v entry) v.hand (weights_fit v ready entry) ready.hand) sums new (subst P same (is e there.1)) tables

  -- what counts later is the weight that was, or nothing
  pub counts_later : (v new : TablesValue S W Map) → Onward v new → (x : Place) → (counting new x ≡ weight v x) ⊎ (counting new x ≡ s.zero)
  counts_later v new onward x = elim (onward.further.counts x) [
    | inl same ↦ elim (settled_or_none s x v.base) [ inl is ↦ inl (same ∙ is) | inr none ↦ inr (same ∙ none) ]
    | inr none ↦ inr none
  ]

  -- so a goal that lies below what the weight made lies below what counts
  pub given_counts : (v new : TablesValue S W Map) → Onward v new → (goal x : Place) (F : W → W) → F s.zero ≡ s.zero → Below s (weight new goal) (F (weight v x)) → Below s (weight new goal) (F (counting new x))
  given_counts v new onward goal x F strict below = elim (counts_later v new onward x) [
    | inl same ↦ let P : W → Type 0 = λ u. Below s (weight new goal) (F u) in subst P (sym same) below
    | inr none ↦ let P : W → Type 0 = Below s (weight new goal) in subst P (sym (ap F none ∙ strict)) (below_zero laws (weight new goal) (weights_fit new onward.ready goal))
  ]
