-- A search begins, and goes on by taking an entry that waits, until none does.
use Rattle.std.proofs.Common.{◌≡◌, inl, inr, ℕ, ◌<◌, true, [], length, sym, ap, ◌∙◌, subst, arith}
use Rattle.std.specs.Prelude.{Some, slice_get}
use Rattle.semiring_laws.specs.Semiring.{Operations, IsSemiring, Below}
use Rattle.semiring_laws.proofs.CallerLemmas.{below_zero}
use Rattle.weighted_automata.specs.declared.place.Label.TheVariants.{Symbol, Empty}
use Rattle.weighted_automata.specs.declared.place.Place.{Place}
use Rattle.pushdown_rules.specs.Pushdown.{Pushdown, IsSystem}
use Rattle.pushdown_rules.specs.Values.{value_of}
use Rattle.pushdown_rules.proofs.CallerLemmas.{value_fits, weight_fits}
use Rattle.config_patterns.specs.Edges.{edges_of}
use Rattle.config_patterns.specs.Membership.{PatternValue}
use Rattle.value_laws.proofs.CallerLemmas.{sums_none}
use Rattle.weight_tables.specs.Entries.{TableEntry, NoneWaits, lowered_in, taken}
use Rattle.weight_tables.specs.Tables.{TablesValue, AreTables, with_entries, with_hand}
use Rattle.weight_tables.specs.Turns.{turns_left}
use Rattle.weight_tables.specs.declared.layer.Layer.TheVariants.{Base}
use Rattle.weight_tables.proofs.CallerLemmas.{all_settled, taken_weight, taken_settled, taken_places, taken_turns}
use Rattle.forward_value_laws.specs.Model.{Comes}
use Rattle.forward_value_laws.specs.Settling.{call_weight}
use Rattle.forward_value_search.specs.Places.{arrow}
use Rattle.forward_value_search.specs.Settled.{head_at, IsSettled}
use Rattle.forward_value_search.specs.Search.{StandsAt, HasSums, weights, settled, IsReady, IsOnward, IsSearch, IsFinished, HasGivenAll}
use Rattle.forward_value_search.proofs.EdgeLemmas.{edge_within}
use Rattle.forward_value_search.proofs.SettledLemmas.{call_fits, taken_settled as place_settled}
use Rattle.forward_value_search.proofs.SumLemmas.{start_at}
use Rattle.forward_value_search.proofs.ClosedLemmas.{sums_sound, settled_closed}
use Rattle.forward_value_search.proofs.OnwardLemmas.{weights_fit, counting_fit, lowered}

module _ {S W Map : Type 0} {operations : S → Operations W Map} {p : Pushdown S W Map} (valid : IsSystem operations p) (laws : IsSemiring (operations p.semiring)) (first : PatternValue) where
  abbrev s : Operations W Map
  s = operations p.semiring

  abbrev items : ℕ
  items = length first.items

  abbrev weight : TablesValue S W Map → Place → W
  weight v = weights operations p first v

  abbrev counting : TablesValue S W Map → Place → W
  counting v = settled operations p first v

  -- where nothing counts, nothing is left to do but to begin
  nothing_counts : (v : TablesValue S W Map) → IsReady operations p first v → ((y : Place) → counting v y ≡ s.zero) → Below s (weight v (arrow first.control Empty 0)) s.one
      → IsSettled s p items first.control (edges_of first.items) (weight v) (counting v)
  nothing_counts v ready none starts =
      let fit = weights_fit valid laws first v ready in
      let low : (goal : Place) (w : W) → w ≡ s.zero → Below s (weight v goal) w = λ goal w is. let P : W → Type 0 = Below s (weight v goal) in subst P (sym is) (below_zero laws (weight v goal) (fit goal)) in
      record {
        starts = starts;
        reads = λ q i g j edge. low (arrow q (Symbol g) j) (counting v (arrow q Empty i)) (none (arrow q Empty i));
        rules = λ k r there n. record {
          steps = λ few. low _ (s.extend (counting v (head_at r n)) r.weight) (ap (λ u. s.extend u r.weight) (none (head_at r n)) ∙ laws.extend-zero_left r.weight (weight_fits valid laws k r there));
          enters = λ a b right m number some. absurd (some (none (head_at r n)));
          returns = λ a b right m number q.
              let call = call_weight s r (counting v (arrow q Empty m)) in
              low _ (s.extend (counting v (head_at r n)) call)
              (ap (λ u. s.extend u call) (none (head_at r n)) ∙ laws.extend-zero_left call (call_fits valid laws k r there a b right (counting v (arrow q Empty m)) (counting_fit valid laws first v ready (arrow q Empty m))));
        };
      }

  -- a search begins
  pub opened : (begun empty one new : TablesValue S W Map) → begun.system ≡ p → empty ≡ with_entries Base [] begun → one ≡ with_hand (operations empty.system.semiring).one empty
      → new ≡ with_entries Base (lowered_in (operations one.system.semiring) (arrow first.control Empty 0) one.hand one.base) one → AreTables (operations new.system.semiring) new → IsSearch operations p first new
  opened begun empty one new same is_empty is_one is_new tables =
      let x = arrow first.control Empty 0 in
      let v : TablesValue S W Map = with_hand s.one (with_entries Base [] begun) in
      let A : TablesValue S W Map → Type 0 = λ z. one ≡ with_hand (operations z.system.semiring).one z in
      let B : Pushdown S W Map → Type 0 = λ q. one ≡ with_hand (operations q.semiring).one (with_entries Base [] begun) in
      let is_v : one ≡ v = subst B same (subst A is_empty is_one) in
      let C : TablesValue S W Map → Type 0 = λ z. new ≡ with_entries Base (lowered_in (operations z.system.semiring) x z.hand z.base) z in
      let is : new ≡ with_entries Base (lowered_in (operations begun.system.semiring) x s.one []) v = subst C is_v is_new in
      let ready : IsReady operations p first v = record {
        system = same;
        hand = laws.fits-one;
        table = record { distinct = tt; fits = tt; few = omega arith };
        sums = λ y row from few at. sums_none laws (value_of s p) (λ run. value_fits valid laws run) (Comes p first.control (edges_of first.items) row from);
      } in
      let done = lowered valid laws first v ready x s.one laws.fits-one (start_at valid laws items first.control (edges_of first.items)) new is tables in
      let none : (y : Place) → counting new y ≡ s.zero = λ y. elim (done.0.further.counts y) [ inl as_before ↦ as_before | inr zero ↦ zero ] in
      record { ready = done.0.ready; settles = nothing_counts new done.0.ready none done.1 }

  -- where none waits, the search is finished
  pub finished : (v : TablesValue S W Map) → IsSearch operations p first v → NoneWaits v.base → IsFinished operations p first v
  finished v search none =
      let fit = weights_fit valid laws first v search.ready in
      let P : (Place → W) → Type 0 = IsSettled s p items first.control (edges_of first.items) (weight v) in
      let all : IsSettled s p items first.control (edges_of first.items) (weight v) (weight v) = subst P (λ j x. all_settled s x v.base none j) search.settles in
      record {
        sound = sums_sound valid laws items first.control (edges_of first.items) (weight v) fit search.ready.sums;
        closed = settled_closed valid laws items first.control (edges_of first.items) (weight v) fit (λ e there. edge_within first.items e there) all;
      }

  -- An entry is taken.
  module _ (v one : TablesValue S W Map) (search : IsSearch operations p first v) (t : ℕ) (e : TableEntry W) (there : slice_get v.base t ≡ Some e) (waits : e.waits ≡ true)
      (is : one ≡ with_entries Base (taken t v.base) v) (tables : AreTables (operations one.system.semiring) one) where
    abbrev took : TablesValue S W Map
    took = with_entries Base (taken t v.base) v

    same_weight : (y : Place) → weight took y ≡ weight v y
    same_weight y = taken_weight s y t v.base

    taken_ready : IsReady operations p first took
    taken_ready =
        let P : TablesValue S W Map → Type 0 = λ z. AreTables (operations z.system.semiring) z in
        let here : AreTables (operations v.system.semiring) took = subst P is tables in
        let Q : Pushdown S W Map → Type 0 = λ q. AreTables (operations q.semiring) took in
        let table = (subst Q search.ready.system here).base in
        record {
          system = search.ready.system;
          hand = search.ready.hand;
          table = table;
          sums = λ y. let R : W → Type 0 = HasSums operations p first y in subst R (sym (same_weight y)) (search.ready.sums y);
        }

    pub take_ready : IsReady operations p first one
    take_ready = let P : TablesValue S W Map → Type 0 = IsReady operations p first in subst P (sym is) taken_ready

    took_stands : StandsAt t e.place one.base
    took_stands = let P : TablesValue S W Map → Type 0 = λ z. StandsAt t e.place z.base in subst P (sym is) (taken_places s t v.base t e there)

    module _ (new : TablesValue S W Map) (onward : IsOnward operations p first one new) (gives : (x : Place) → StandsAt t x one.base → HasGivenAll operations p first new x) where
      took_onward : IsOnward operations p first took new
      took_onward = let P : TablesValue S W Map → Type 0 = λ z. IsOnward operations p first z new in subst P is onward

      -- what it gives is there
      pub turned : IsSearch operations p first new
      turned = record {
        ready = onward.ready;
        settles =
            place_settled valid laws items first.control (edges_of first.items) (weight v) (counting v) (weight new) (counting new) (weights_fit valid laws first v search.ready) (counting_fit valid laws first v search.ready)
            (weights_fit valid laws first new onward.ready) (counting_fit valid laws first new onward.ready)
            (λ y. let P : W → Type 0 = Below s (weight new y) in subst P (same_weight y) (took_onward.further.falls y)) e.place
            (λ y differs. let before = taken_settled s y t v.base e there differs in elim (took_onward.further.counts y) [ inl same ↦ inl (same ∙ before) | inr none ↦ inr none ])
            search.settles (gives e.place took_stands);
      }

      pub turned_fewer : turns_left s new.base < turns_left s v.base
      turned_fewer =
          let less = taken_turns laws t v.base e there waits in
          let few = took_onward.fewer in omega (arith, less, few)

-- The same of a system that is that of the tables.
module _ {S W Map : Type 0} (operations : S → Operations W Map) (laws : (x : S) → IsSemiring (operations x)) (first : PatternValue) (q : Pushdown S W Map) (valid : IsSystem operations q) (v : TablesValue S W Map) (same : q ≡ v.system)
    (search : IsSearch operations v.system first v) where
  abbrev of_q : IsSearch operations q first v
  of_q = let P : Pushdown S W Map → Type 0 = λ p. IsSearch operations p first v in subst P (sym same) search

  pub finished_own : NoneWaits v.base → IsFinished operations v.system first v
  finished_own none = let P : Pushdown S W Map → Type 0 = λ p. IsFinished operations p first v in subst P same (finished valid (laws q.semiring) first v of_q none)

  module _ (one : TablesValue S W Map) (t : ℕ) (e : TableEntry W) (there : slice_get v.base t ≡ Some e) (waits : e.waits ≡ true) (is : one ≡ with_entries Base (taken t v.base) v)
      (tables : AreTables (operations one.system.semiring) one) where
    pub take_ready_own : IsReady operations q first one
    take_ready_own = take_ready valid (laws q.semiring) first v one of_q t e there waits is tables

    module _ (new : TablesValue S W Map) (onward : IsOnward operations q first one new) (gives : (x : Place) → StandsAt t x one.base → HasGivenAll operations q first new x) where
      pub turned_own : IsSearch operations v.system first new
      turned_own = let P : Pushdown S W Map → Type 0 = λ p. IsSearch operations p first new in subst P same (turned valid (laws q.semiring) first v one of_q t e there waits is tables new onward gives)

      pub fewer_own : turns_left (operations v.system.semiring) new.base < turns_left (operations v.system.semiring) v.base
      fewer_own =
          let P : Pushdown S W Map → Type 0 = λ p. turns_left (operations p.semiring) new.base < turns_left (operations p.semiring) v.base in
          subst P same (turned_fewer valid (laws q.semiring) first v one of_q t e there waits is tables new onward gives)

      pub system_own : new.system ≡ v.system
      system_own = onward.ready.system ∙ same
