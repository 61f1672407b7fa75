-- A call that returns, by what stands in the table of its callee's ends.
use Rattle.std.proofs.Common.{◌≡◌, ◌⊎◌, inl, inr, ℕ, List, [], ◌∷◌, refl, sym, ap, ◌∙◌, subst}
use Rattle.std.specs.Prelude.{Option, None, Some, slice_get, if◌then◌else◌, Bool, true}
use Rattle.semiring_laws.specs.Semiring.{Operations, IsSemiring, Fits, Below}
use Rattle.pushdown_rules.specs.declared.rule.Rule.{Rule}
use Rattle.pushdown_rules.specs.Pushdown.{Pushdown, IsSystem}
use Rattle.pushdown_rules.specs.Values.{value_of}
use Rattle.config_patterns.specs.Membership.{PatternValue}
use Rattle.weighted_automata.specs.declared.place.Place.{Place}
use Rattle.value_laws.specs.Runs.{Sums}
use Rattle.value_laws.specs.Settled.{returned_worth}
use Rattle.value_laws.proofs.CallerLemmas.{fits_inside}
use Rattle.weight_tables.specs.Entries.{TableEntry, IsTable, index_at, settled_in}
use Rattle.weight_tables.specs.Tables.{TablesValue, with_hand}
use Rattle.weight_tables.proofs.CallerLemmas.{index_place, none_settled}
use Rattle.value_search.specs.Views.{place_at, found, weights, counting, Leads}
use Rattle.value_search.specs.Finds.{IsAt, IsSearch, IsOnward}
use Rattle.value_search.specs.Met.{IsHeld, call_worth}
use Rattle.value_search.proofs.ViewLemmas.{weight_at, weights_fit, counting_fits, entry_counts}
use Rattle.value_search.proofs.OnwardLemmas.{found_table, found_fits, held_onward, base_further, counted}
use Rattle.value_search.proofs.MeetLemmas.{nothing_comes, nothing_goes_on}
use Rattle.value_search.proofs.SecondLemmas.{found_entry}
use Rattle.value_search.proofs.HandLemmas.{hand_starts, held_returns, held_returned, worth_counts}

module _ {S W Map : Type 0} {operations : S → Operations W Map} {p : Pushdown S W Map} (valid : IsSystem operations p) (laws : IsSemiring (operations p.semiring)) where
  abbrev s : Operations W Map
  s = operations p.semiring

  -- a search to a target is one between controls as well
  pub base_search : (target : Option PatternValue) (v : TablesValue S W Map) → IsSearch s p target v → IsSearch s p None v
  base_search target v search = record { same = search.same; tables = search.tables; base = search.base; sound = search.base }

  -- an entry that waits counts for nothing
  pub waiting_counts : (es : List (TableEntry W)) → IsTable s es → (t c g q : ℕ) → IsAt es t (place_at c g q) → (e : TableEntry W) → slice_get es t ≡ Some e → e.waits ≡ true → counting s es c g q ≡ s.zero
  waiting_counts es table t c g q at e there waits =
      let same : Some at.0 ≡ Some e = sym at.1 ∙ there in
      let own : at.0 ≡ e = cc in
      let P : Place → Type 0 = λ x. settled_in s es x ≡ s.zero in
      let first : P at.0.place = (entry_counts s es table t at.0 at.1).1 ∙ ap (λ (b : Bool). if b then s.zero else at.0.weight) (ap (λ (f : TableEntry W). f.waits) own ∙ waits) in
      subst P at.2 first

  module _ (target : Option PatternValue) (k : ℕ) (r : Rule S W Map) (there : slice_get p.rules k ≡ Some r) (f h : ℕ) (right : r.right ≡ f ∷ h ∷ []) (mid to : ℕ) where
    -- the goal is below what counts of the callee's end and of what goes on there
    abbrev IsBelow : TablesValue S W Map → Type 0
    IsBelow v = Below s (weights s (found target v) r.control r.symbol to) (returned_worth s r (counting s v.base r.to f mid) (counting s (found target v) mid h to))

    module _ (v : TablesValue S W Map) (search : IsSearch s p target v) where
      goal_fits : Fits s (weights s (found target v) r.control r.symbol to)
      goal_fits = found_fits valid laws target v search r.control r.symbol to

      end_fits : Fits s (counting s (found target v) mid h to)
      end_fits = counting_fits laws (found target v) (found_table valid laws target v search.tables) mid h to

      pub callee_none : index_at (place_at r.to f mid) v.base ≡ None → IsBelow v
      callee_none none = nothing_comes valid laws k r there f h right (weights s (found target v) r.control r.symbol to) goal_fits (counting s v.base r.to f mid) (counting s (found target v) mid h to) end_fits
          (none_settled s (place_at r.to f mid) v.base none)

      -- where the callee's end stands
      module _ (t : ℕ) (found_at : index_at (place_at r.to f mid) v.base ≡ Some t) where
        pub callee_at : IsAt v.base t (place_at r.to f mid)
        callee_at = let e = found_entry (place_at r.to f mid) v.base t found_at in (e.0, e.1, index_place (place_at r.to f mid) v.base t e.0 found_at e.1)

        pub callee_waits : (e : TableEntry W) → slice_get v.base t ≡ Some e → e.waits ≡ true → IsBelow v
        callee_waits e there' waits = nothing_comes valid laws k r there f h right (weights s (found target v) r.control r.symbol to) goal_fits (counting s v.base r.to f mid) (counting s (found target v) mid h to) end_fits
            (waiting_counts v.base search.tables.base t r.to f mid callee_at e there' waits)

        module _ (v' : TablesValue S W Map) (made : (r : Rule S W Map) → slice_get p.rules k ≡ Some r → (e : TableEntry W) → slice_get v.base t ≡ Some e → v' ≡ with_hand (call_worth s r e.weight) v) where
          pub callee_held : IsHeld s p None (call_worth s) k r.to f mid v'
          callee_held = hand_starts valid laws None (call_worth s) k r there (λ w fw. fits_inside valid laws k r there f h right w fw) v v' (base_search target v search) t r.to f mid callee_at made

          pub callee_onward : IsOnward s p target v v'
          callee_onward =
              let at = callee_at in
              let weight : weights s v.base r.to f mid ≡ at.0.weight = weight_at s v.base search.tables.base t r.to f mid at at.0 at.1 in
              held_onward valid laws target v v' (call_worth s r at.0.weight) search
              (fits_inside valid laws k r there f h right at.0.weight (subst (Fits s) weight (weights_fit laws v.base search.tables.base r.to f mid))) (made r there at.0 at.1)

    -- with the callee's return in hand
    module _ (v : TablesValue S W Map) (search : IsSearch s p target v) (held : IsHeld s p None (call_worth s) k r.to f mid v) (t : ℕ) (at : IsAt (found target v) t (place_at mid h to)) where
      end_weight : (e : TableEntry W) → slice_get (found target v) t ≡ Some e → weights s (found target v) mid h to ≡ e.weight
      end_weight e there' = weight_at s (found target v) (found_table valid laws target v search.tables) t mid h to at e there'

      pub callee_sums : (e : TableEntry W) → slice_get (found target v) t ≡ Some e → Sums s (value_of s p) (Leads p target r.control r.symbol to) (s.extend v.hand e.weight)
      callee_sums e there' =
          let P : W → Type 0 = Sums s (value_of s p) (Leads p target mid h to) in
          held_returns valid laws k r there r.to f h mid to right refl v held target e.weight (subst P (end_weight e there') (search.sound mid h to))

      pub callee_below : (v' : TablesValue S W Map) → IsOnward s p target v v' → (e : TableEntry W) → slice_get (found target v) t ≡ Some e
          → Below s (weights s (found target v') r.control r.symbol to) (s.extend v.hand e.weight) → IsBelow v'
      callee_below v' onward e there' below =
          let now = base_further valid laws target v v' search onward in
          let one : (counting s v'.base r.to f mid ≡ held.worth) ⊎ (counting s v'.base r.to f mid ≡ s.zero) = elim (now.counts r.to f mid) [
            | inr none ↦ inr none
            | inl is ↦ elim held.counts [ inl same ↦ inl (is ∙ same) | inr none ↦ inr (is ∙ none) ]
          ] in
          let two : (counting s (found target v') mid h to ≡ e.weight) ⊎ (counting s (found target v') mid h to ≡ s.zero) = elim (counted valid laws target v v' onward mid h to) [
            | inr none ↦ inr none
            | inl is ↦ inl (is ∙ end_weight e there')
          ] in
          held_returned valid laws k r there r.to f h mid to right refl v held (weights s (found target v') r.control r.symbol to) e.weight (counting s v'.base r.to f mid) (counting s (found target v') mid h to)
          (found_fits valid laws target v' onward.search r.control r.symbol to) (subst (Fits s) (end_weight e there') (found_fits valid laws target v search mid h to))
          (counting_fits laws v'.base onward.search.tables.base r.to f mid) (counting_fits laws (found target v') (found_table valid laws target v' onward.search.tables) mid h to) one two below

  -- an entry that goes on where a callee ends, with the callee's return in hand
  module _ (k : ℕ) (r : Rule S W Map) (there : slice_get p.rules k ≡ Some r) (c g h q : ℕ) (right : r.right ≡ g ∷ h ∷ []) (is : r.to ≡ c) (v : TablesValue S W Map) (search : IsSearch s p None v)
      (t : ℕ) (e : TableEntry W) (at : slice_get v.base t ≡ Some e) (row : e.place ≡ place_at q h e.place.to) where
    second_weight : weights s v.base q h e.place.to ≡ e.weight
    second_weight = weight_at s v.base search.tables.base t q h e.place.to (e, at, row) e at

    pub second_waits : e.waits ≡ true → Below s (weights s v.base r.control r.symbol e.place.to) (returned_worth s r (counting s v.base c g q) (counting s v.base q h e.place.to))
    second_waits waits = nothing_goes_on valid laws k r there g h right (weights s v.base r.control r.symbol e.place.to) (weights_fit laws v.base search.tables.base r.control r.symbol e.place.to)
        (counting s v.base c g q) (counting s v.base q h e.place.to) (counting_fits laws v.base search.tables.base c g q) (waiting_counts v.base search.tables.base t q h e.place.to (e, at, row) e at waits)

    module _ (held : IsHeld s p None (call_worth s) k c g q v) (to : ℕ) (end : to ≡ e.place.to) where
      pub second_sums : Sums s (value_of s p) (Leads p None r.control r.symbol to) (s.extend v.hand e.weight)
      second_sums =
          let P : W → Type 0 = Sums s (value_of s p) (Leads p None q h e.place.to) in
          let Q : ℕ → Type 0 = λ i. Sums s (value_of s p) (Leads p None q h i) e.weight in
          held_returns valid laws k r there c g h q to right is v held None e.weight (subst Q (sym end) (subst P second_weight (search.sound q h e.place.to)))

      pub second_below : (v' : TablesValue S W Map) → IsOnward s p None v v' → Below s (weights s v'.base r.control r.symbol to) (s.extend v.hand e.weight)
          → Below s (weights s v'.base r.control r.symbol e.place.to) (returned_worth s r (counting s v'.base c g q) (counting s v'.base q h e.place.to))
      second_below v' onward below =
          let x = weights s v'.base r.control r.symbol e.place.to in
          let P : ℕ → Type 0 = λ i. Below s (weights s v'.base r.control r.symbol i) (s.extend v.hand e.weight) in
          let two : (counting s v'.base q h e.place.to ≡ e.weight) ⊎ (counting s v'.base q h e.place.to ≡ s.zero) = elim (counted valid laws None v v' onward q h e.place.to) [
            | inr none ↦ inr none
            | inl same ↦ inl (same ∙ second_weight)
          ] in
          let tables = onward.search.tables.base in
          held_returned valid laws k r there c g h q to right is v held (weights s v'.base r.control r.symbol e.place.to) e.weight (counting s v'.base c g q) (counting s v'.base q h e.place.to)
          (weights_fit laws v'.base tables r.control r.symbol e.place.to) (subst (Fits s) second_weight (weights_fit laws v.base search.tables.base q h e.place.to))
          (counting_fits laws v'.base tables c g q) (counting_fits laws v'.base tables q h e.place.to) (worth_counts valid laws None (call_worth s) k c g q v v' onward held) two (subst P end below)
