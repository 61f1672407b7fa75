-- A sum on its way, from the first pair until none waits.
use Rattle.std.proofs.Common.{◌≡◌, inl, inr, ℕ, ◌+◌, ◌-◌, ◌*◌, ◌<◌, ◌≤◌, List, [], ◌∷◌, length, refl, sym, ap, ◌∙◌, subst, arith}
use Rattle.std.specs.Prelude.{Option, None, Some, IsSome, option_and_then}
use Rattle.std.proofs.lemmas.Bool.{cond_both}
use Rattle.std.proofs.lemmas.List.{length_push}
use Rattle.semiring_laws.specs.Semiring.{Operations, IsSemiring}
use Rattle.weighted_automata.specs.declared.place.Place.{Place}
use Rattle.weighted_automata.specs.declared.transitions.Entry.{Entry}
use Rattle.weighted_automata.specs.Entries.{index_at}
use Rattle.weighted_automata.specs.Places.{same_place}
use Rattle.weighted_automata.proofs.CallerLemmas.{same_place_is}
use Rattle.witness_graph.specs.declared.node.Node.{Node}
use Rattle.witness_graph.specs.declared.node.Node.TheVariants.{Start}
use Rattle.pushdown_rules.specs.Pushdown.{Pushdown}
use Rattle.saturation_laws.specs.Bound.{fallen}
use Rattle.wpds_base.specs.Lists.{IsIn}
use Rattle.saturation_laws.specs.Openings.{AreKept, found_so_far}
use Rattle.saturation_laws.specs.States.{CoreState}
use Rattle.saturation_laws.specs.Invariants.{HasShape}
use Rattle.saturation_laws.proofs.CallerLemmas.{entry_fits}
use Rattle.path_sum.specs.Sums.{Ways, ways_of, pair_place, Move, Done, move, grow, bare_sum, IsGrown}
use Rattle.path_sum.specs.private.Work.{moves_of, IsSummed, sum_places}
use Rattle.path_sum.specs.private.Growing.{IsReady}
use Rattle.path_sum.specs.private.Paths.{SumRun, IsSummable}
use Rattle.path_sum.specs.private.Inputs.{SumInputValue}
use Rattle.path_sum.specs.private.Rounds.{IsUnderWay}
use Rattle.path_sum.proofs.GrowingLemmas.{IsSum}
use Rattle.path_sum.proofs.SumLemmas.{grown_good}
use Rattle.path_sum.proofs.WorkingLemmas.{work_keeps, bare_awaited, moves_count, work_falls, summed_up, fallen_top}
use Rattle.path_sum.proofs.MoveLemmas.{moves_work, grown_on}
use Rattle.path_sum.proofs.PlaceLemmas.{places_reach}

-- the state with this queue
abbrev pub past : {S W Map : Type 0} → CoreState S W Map → List Place → CoreState S W Map
past st q = record { transitions = st.transitions; nodes = st.nodes; queue = q; hands = st.hands }

module _ {S W Map : Type 0} (s : Operations W Map) (input : SumInputValue S W Map) (nodes : List Node) where
  -- what is left to do
  abbrev pub left_of : CoreState S W Map → ℕ
  left_of st = let places = sum_places (ways_of input.pattern) input.transitions in (length places * s.top_rank - fallen s st.transitions places) + length st.queue

module _ {S W Map : Type 0} {s : Operations W Map} (laws : IsSemiring s) (value : List ℕ → W) (p : Pushdown S W Map) (runs : Place → List ℕ → Type 0)
    (input : SumInputValue S W Map) (nodes : List Node) (is : IsSummable s value p runs input nodes) where
  abbrev ways : Ways
  ways = ways_of input.pattern

  abbrev places : List Place
  places = sum_places ways input.transitions

  abbrev shape : (st : CoreState S W Map) × (st.nodes ≡ nodes) × HasShape s value input.side st
  shape = (found_so_far input.transitions nodes [], refl, is.shape)

  pub sum_good : (st : CoreState S W Map) → IsGrown s input.side input.opening input.transitions nodes ways st → IsSum s value (SumRun p input.side input.opening ways runs) input.side ways nodes st
  sum_good st grown = grown_good laws value is.fits p input.side input.opening ways runs is.control is.gives input.transitions nodes is.sound shape st grown

  pub begun : (st : CoreState S W Map) → st ≡ bare_sum s input.side nodes ways → IsUnderWay s input nodes st
  begun st e =
      let bare : CoreState S W Map = bare_sum s input.side nodes ways in
      let T : CoreState S W Map → Type 0 = IsUnderWay s input nodes in
      let start : Entry S W Map = record { place = pair_place 0 ways.control; weight = s.one; node = length nodes } in
      let first = (places_reach input.transitions input.pattern).first in
      subst T (sym e) (record {
        grown = record { moves = []; grows = refl };
        awaited = bare_awaited laws value is.fits p input.side input.opening ways runs is.control is.gives input.transitions nodes is.sound shape;
        among = λ x. let P : Option (Entry S W Map) → Type 0 = λ o. IsSome o → IsIn x places in
            cond_both (same_place start.place x) (Some start) None P (λ t h. let Q : Place → Type 0 = λ y. IsIn y places in subst Q (same_place_is start.place x t) first) (λ t h. cc);
        few = omega (arith, length_push nodes Start);
      })

  -- the front can be worked
  pub front_ready : (st : CoreState S W Map) (k : ℕ) (x : Place) (q : List Place) → IsUnderWay s input nodes st → index_at x st.transitions ≡ Some k → IsReady s input.transitions k x (past st q)
  front_ready st k x q now at =
      let good = sum_good st now.grown in
      record {
        at = at;
        pairs = record { each = λ t there. (entry_fits laws value is.fits (SumRun p input.side input.opening ways runs) input.side st.nodes t (good.sound.sound t there), (good.sound.sound t there).node) };
        transitions = record { each = λ t there. (entry_fits laws value is.fits runs input.side nodes t (is.sound t there), omega (arith, good.more, (is.sound t there).node)) };
      }

  module _ (st new : CoreState S W Map) (x : Place) (q : List Place) (now : IsUnderWay s input nodes st) (front : st.queue ≡ x ∷ q)
      (drawn : grow s input.side input.opening input.transitions ways (past st q) (moves_of input.opening ways input.transitions x) ≡ Some new) where
    abbrev ms : List Move
    ms = moves_of input.opening ways input.transitions x

    -- a round keeps what holds
    pub round_keeps : IsUnderWay s input nodes new
    round_keeps =
        let good = sum_good st now.grown in
        let work = moves_work input.opening ways input.transitions x in
        let done : move s input.side input.opening input.transitions ways Done st ≡ Some (past st q) = ap (λ r. elim r [ [] ↦ None | y ∷ z ↦ Some (past st z) ]) front in
        let moved : grow s input.side input.opening input.transitions ways st (Done ∷ ms) ≡ Some new = ap (option_and_then (λ n. grow s input.side input.opening input.transitions ways n ms)) done ∙ drawn in
        let past_shape = sum_good (past st q) (grown_on s input.side input.opening input.transitions ways nodes st (past st q) (Done ∷ []) now.grown (ap (option_and_then (λ n. Some n)) done)) in
        let count = moves_count laws value is.fits p input.side input.opening ways runs is.control is.gives input.transitions nodes is.sound shape places (places_reach input.transitions input.pattern)
        ms (past st q) new work.adds past_shape now.among drawn in
        record {
          grown = grown_on s input.side input.opening input.transitions ways nodes st new (Done ∷ ms) now.grown moved;
          awaited = work_keeps laws value is.fits p input.side input.opening ways runs is.control is.gives input.transitions nodes is.sound shape st new x q ms good front work now.awaited drawn;
          among = λ y there. elim (count.within y there) [ inl before ↦ now.among y before | inr in' ↦ in' ];
          few = omega (arith, now.few, count.nodes);
        }

    -- and leaves less to do
    pub round_falls : left_of s input nodes new < left_of s input nodes st
    round_falls =
        work_falls laws value is.fits p input.side input.opening ways runs is.control is.gives input.transitions nodes is.sound shape places (places_reach input.transitions input.pattern)
        st new x q ms (sum_good st now.grown) now.among front (moves_work input.opening ways input.transitions x).adds drawn

  -- where nothing waits, the sum is done
  pub ended : (st : CoreState S W Map) → IsUnderWay s input nodes st → st.queue ≡ [] → IsSummed s input.side input.opening input.transitions ways st.transitions
  ended st now empty = summed_up laws value is.fits p input.side input.opening ways runs is.control is.gives input.transitions nodes is.sound shape st now.awaited empty

  pub all_kept : (st : CoreState S W Map) → IsUnderWay s input nodes st → AreKept s st.transitions (length st.nodes)
  all_kept st now =
      let good = sum_good st now.grown in
      record { each = λ t there. (entry_fits laws value is.fits (SumRun p input.side input.opening ways runs) input.side st.nodes t (good.sound.sound t there), (good.sound.sound t there).node) }

  pub few_nodes : (st : CoreState S W Map) → IsUnderWay s input nodes st → length st.nodes ≤ length nodes + 1 + length places * s.top_rank
  few_nodes st now =
      let top = fallen_top laws value is.fits p input.side input.opening ways runs is.control is.gives input.transitions nodes is.sound shape places (places_reach input.transitions input.pattern) st places in
      omega (arith, now.few, top)
