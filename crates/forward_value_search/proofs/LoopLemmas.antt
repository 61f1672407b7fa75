-- A loop along a row of entries, each turn of which goes on.
use Rattle.std.proofs.Common.{◌≡◌, inl, inr, ℕ, ◌<◌, ◌+◌, ◌^◌, Bool, true, List, length, refl, sym, ap, ◌∙◌, subst, arith}
use Rattle.std.specs.Prelude.{Option, Some, None, slice_get}
use Rattle.std.proofs.lemmas.Option.{same_Some}
use Rattle.key_rows.specs.Rows.{index_where, index_from}
use Rattle.semiring_laws.specs.Semiring.{Operations, IsSemiring}
use Rattle.weighted_automata.specs.declared.place.Label.{Label}
use Rattle.weighted_automata.specs.declared.place.Label.TheVariants.{Symbol, Empty}
use Rattle.weighted_automata.specs.declared.place.Place.{Place}
use Rattle.pushdown_rules.specs.Pushdown.{Pushdown, IsSystem}
use Rattle.pushdown_rules.proofs.CallerLemmas.{IsFound}
use Rattle.config_patterns.specs.Membership.{PatternValue}
use Rattle.weight_tables.specs.Entries.{TableEntry, index_at, is_from, is_empty_into}
use Rattle.weight_tables.specs.Tables.{TablesValue}
use Rattle.weight_tables.proofs.CallerLemmas.{to_go}
use Rattle.forward_value_search.specs.Search.{StandsAt, KeepsNumbers, IsReady, IsOnward}
use Rattle.forward_value_search.proofs.OnwardLemmas.{onward_itself, onward_then}
use Rattle.forward_value_search.proofs.PlaceLemmas.{stands_or, in_row, is_end, row_is, end_is}
use Rattle.forward_value_search.proofs.WalkLemmas.{by_place, IsEntryWalk, entries_start, entries_at, entries_within, entries_go_on, entries_end, entries_smaller}

-- What such a loop has before the entry of number `at`.
pub record IsLoop {S W Map : Type 0} (operations : S → Operations W Map) (p : Pushdown S W Map) (first : PatternValue) (test : Place → Bool) (P : TablesValue S W Map → Place → Type 0)
    (begun now : TablesValue S W Map) (at : Option ℕ) : Type 0 where
  pub onward : IsOnward operations p first begun now
  pub walk : IsEntryWalk test now.base at (P now)

module _ {S W Map : Type 0} {operations : S → Operations W Map} {p : Pushdown S W Map} (valid : IsSystem operations p) (laws : IsSemiring (operations p.semiring)) (first : PatternValue)
    (test : Place → Bool) (P : TablesValue S W Map → Place → Type 0) (begun : TablesValue S W Map) (ready : IsReady operations p first begun) where
  abbrev Loop : TablesValue S W Map → Option ℕ → Type 0
  Loop now at = IsLoop operations p first test P begun now at

  pub loop_starts : (at : Option ℕ) → at ≡ index_where (by_place test) begun.base → Loop begun at
  loop_starts at is = record { onward = onward_itself valid laws first begun ready; walk = entries_start test begun.base at (P begun) is }

  module _ (now : TablesValue S W Map) (at : Option ℕ) (loop : Loop now at) where
    pub loop_at : (t : ℕ) → at ≡ Some t → IsFound (by_place test) now.base t
    loop_at t is = entries_at test now.base at (P now) loop.walk t is

    pub loop_within : (t : ℕ) → at ≡ Some t → t < length now.base
    loop_within t is = entries_within test now.base at (P now) loop.walk t is

    -- the entry that the loop is at stands where it was found
    pub loop_place : (t : ℕ) → at ≡ Some t → (x : Place) → StandsAt t x now.base → test x ≡ true
    loop_place t is x there =
        let found = loop_at t is in
        let same : found.item ≡ there.0 = same_Some found.item there.0 (sym found.there ∙ there.1) in
        ap test (sym (ap (λ (e : TableEntry W). e.place) same ∙ there.2)) ∙ found.passes

    pub loop_goes_on : (t : ℕ) → at ≡ Some t → (new : TablesValue S W Map) → IsOnward operations p first now new → (next : Option ℕ) → next ≡ index_from (by_place test) (t + 1) new.base
        → ((x : Place) → test x ≡ true → P now x → P new x) → ((x : Place) → StandsAt t x now.base → P new x) → Loop new next
    loop_goes_on t is new onward next goes later here = record {
      onward = onward_then valid laws first begun now new ready loop.onward onward;
      walk = entries_go_on test now.base at (P now) loop.walk t is new.base onward.numbers next goes (P new) later here;
    }

    pub loop_ends : at ≡ None → ((x : Place) → index_at x now.base ≡ None → P now x) → (x : Place) → test x ≡ true → P now x
    loop_ends is none x passes = elim (stands_or now.base x) [
      | inl there ↦ entries_end test now.base at (P now) loop.walk is there.0 x there.1 passes
      | inr absent ↦ none x absent
    ]

    pub loop_smaller : (t : ℕ) → at ≡ Some t → (new : TablesValue S W Map) → (next : Option ℕ) → next ≡ index_from (by_place test) (t + 1) new.base → to_go (2 ^ 32) next < to_go (2 ^ 32) at
    loop_smaller t is new next goes =
        let within = loop_within t is in
        let few = loop.onward.ready.table.few in
        let Less : Option ℕ → Type 0 = λ o. to_go (2 ^ 32) next < to_go (2 ^ 32) o in
        subst Less (sym is) (entries_smaller (by_place test) new.base (2 ^ 32) t next (omega (arith, within, few)) goes)

-- the next of a row, as the tables say it
module _ {W : Type 0} (es new : List (TableEntry W)) (keep : KeepsNumbers es new) (t : ℕ) (next : Option ℕ) where
  pub end_goes : (n : ℕ) → IsFound (by_place (is_end n)) es t → ((e : TableEntry W) → slice_get new t ≡ Some e → e.place.label ≡ Empty → next ≡ index_from (is_empty_into e.place.to) (t + 1) new)
      → next ≡ index_from (by_place (is_end n)) (t + 1) new
  end_goes n found goes =
      let is = end_is n found.item.place found.passes in
      let at = keep t found.item.place (found.item, found.there, refl) in
      let to : at.0.place.to ≡ n = ap (λ (y : Place). y.to) (at.2 ∙ is) in
      let label : at.0.place.label ≡ Empty = ap (λ (y : Place). y.label) (at.2 ∙ is) in
      let P : ℕ → Type 0 = λ m. next ≡ index_from (is_empty_into m) (t + 1) new in
      subst P to (goes at.0 at.1 label)

  pub row_goes : (control g : ℕ) → IsFound (by_place (in_row control g)) es t → ((e : TableEntry W) → slice_get new t ≡ Some e → next ≡ index_from (is_from e.place.from e.place.label) (t + 1) new)
      → next ≡ index_from (by_place (in_row control g)) (t + 1) new
  row_goes control g found goes =
      let is = row_is control g found.item.place found.passes in
      let at = keep t found.item.place (found.item, found.there, refl) in
      let from : at.0.place.from ≡ control = ap (λ (y : Place). y.from) (at.2 ∙ is) in
      let label : at.0.place.label ≡ Symbol g = ap (λ (y : Place). y.label) (at.2 ∙ is) in
      let P : Label → Type 0 = λ l. next ≡ index_from (is_from control l) (t + 1) new in
      let Q : ℕ → Type 0 = λ m. next ≡ index_from (is_from m at.0.place.label) (t + 1) new in
      subst P label (subst Q from (goes at.0 at.1))
