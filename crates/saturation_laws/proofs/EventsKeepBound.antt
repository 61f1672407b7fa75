-- Each event keeps the bound.
use Rattle.std.proofs.Common.{◌≡◌, ◌⊎◌, inl, inr, ℕ, ◌+◌, ◌*◌, ◌<◌, ◌≤◌, true, false, List, [], ◌∷◌, ◌++◌, length, set, refl, sym, ap, ◌∙◌, subst, arith}
use Rattle.std.specs.Prelude.{Option, None, Some, IsSome, option_map, is_none, nat_lt, ◌&&◌}
use Rattle.std.proofs.lemmas.Bool.{cond_both, cases_eq, and_parts, ltb-true}
use Rattle.std.proofs.lemmas.Option.{option_and_then_some}
use Rattle.std.proofs.lemmas.List.{get_or-set_same, get_or-set_other, length_push}
use Rattle.semiring_laws.specs.Semiring.{Operations, IsSemiring, Fits}
use Rattle.weighted_automata.specs.declared.place.Place.{Place}
use Rattle.weighted_automata.specs.declared.transitions.Entry.{Entry}
use Rattle.weighted_automata.specs.Entries.{entry_at}
use Rattle.weighted_automata.proofs.CallerLemmas.{cases_place, entry_at-place, entry_at-lowered_same, entry_at-lowered_other}
use Rattle.witness_graph.specs.declared.node.Side.{Side}
use Rattle.witness_graph.specs.declared.node.Node.TheVariants.{Lower}
use Rattle.saturation_laws.specs.Jobs.{node_of}
use Rattle.pushdown_rules.specs.Pushdown.{Pushdown}
use Rattle.pushdown_rules.specs.Values.{value_of}
use Rattle.saturation_laws.specs.declared.job.Job.{Job}
use Rattle.saturation_laws.specs.declared.opening.Opening.{Opening}
use Rattle.saturation_laws.specs.declared.event.Event.{Event}
use Rattle.saturation_laws.specs.declared.event.Event.TheVariants.{Take, Settle, GiveBack}
use Rattle.saturation_laws.specs.Jobs.{Tables}
use Rattle.wpds_base.specs.Lists.{IsIn}
use Rattle.saturation_laws.specs.Queues.{queued}
use Rattle.weighted_automata.specs.Places.{has_place}
use Rattle.saturation_laws.specs.declared.holding.Holding.{Holding}
use Rattle.saturation_laws.specs.States.{CoreState, Change, hand_at, weight_of, weight_at, lower_state, apply, change_of, apply_jobs, jobs_at, without_front, take, settle, give_back, can_take, is_front, step, replay}
use Rattle.saturation_laws.specs.Directions.{IsDirection}
use Rattle.saturation_laws.specs.Invariants.{LockInvariant}
use Rattle.saturation_laws.specs.Bound.{takes, gives, fallen, IsWithin, WithinRankBound}
use Rattle.saturation_laws.proofs.ApplyChange.{IsSoundState, IsSoundChange, weights_fit, change_fits}
use Rattle.saturation_laws.proofs.SettleState.{apply_keeps, change_later, jobs_keep}
use Rattle.saturation_laws.proofs.QueueLemmas.{after_free}
use Rattle.saturation_laws.proofs.EventsKeepInvariant.{state_of, job_sound, some_is, front_is, some_step, step_keeps}

length_queued : (x : Place) (q : List Place) → length (queued x q) ≤ length q + 1
length_queued x q = let P : List Place → Type 0 = λ r. length r ≤ length q + 1 in
    cond_both (has_place x q) q (q ++ x ∷ []) P (λ _. omega arith) (λ _. omega (arith, length_push q x))

module _ {W Map : Type 0} {s : Operations W Map} (laws : IsSemiring s) where
  pub rank_top : (a : W) → Fits s a → s.rank a ≤ s.top_rank
  rank_top a fit =
      let h : s.rank (s.combine s.zero a) ≤ s.rank s.zero = laws.rank_never_rises s.zero a laws.fits-zero fit in
      let e : s.rank (s.combine s.zero a) ≡ s.rank a = ap s.rank (laws.combine_zero a fit) in
      omega (arith, laws.rank-zero)

module _ {S W Map : Type 0} (s : Operations W Map) (ts us : List (Entry S W Map))
    (falls : (x : Place) → s.rank (weight_at s x us) ≤ s.rank (weight_at s x ts)) where
  fallen_further : (xs : List Place) → fallen s ts xs ≤ fallen s us xs
  fallen_further [] = omega arith
  fallen_further (x ∷ xs) = omega (arith, fallen_further xs, falls x)

  fallen_more : (y : Place) → s.rank (weight_at s y us) < s.rank (weight_at s y ts) → s.rank (weight_at s y ts) ≤ s.top_rank
      → (xs : List Place) → IsIn y xs → fallen s ts xs < fallen s us xs
  fallen_more y less top [] h = elim h [ ]
  fallen_more y less top (x ∷ xs) (inl e) =
      let P : Place → Type 0 = λ z. s.rank (weight_at s z us) < s.rank (weight_at s z ts) in
      let Q : Place → Type 0 = λ z. s.rank (weight_at s z ts) ≤ s.top_rank in
      let less' = subst P (sym e) less in
      let top' = subst Q (sym e) top in
      omega (arith, fallen_further xs, less', top')
  fallen_more y less top (x ∷ xs) (inr h) = omega (arith, fallen_more y less top xs h, falls x)

-- What is counted where the state changes.
pub record Counts {S W Map : Type 0} (s : Operations W Map) (places : List Place) (st : CoreState S W Map) (new : CoreState S W Map) : Type 0 where
  pub queue : length new.queue + length st.nodes ≤ length st.queue + length new.nodes
  pub nodes : length new.nodes + fallen s st.transitions places ≤ length st.nodes + fallen s new.transitions places
  pub within : (x : Place) → IsSome (entry_at x new.transitions) → IsSome (entry_at x st.transitions) ⊎ IsIn x places

module _ {S W Map : Type 0} {s : Operations W Map} (places : List Place) where
  pub counts_itself : (st : CoreState S W Map) → Counts s places st st
  counts_itself st = record { queue = omega arith; nodes = omega arith; within = λ x h. inl h }

  pub counts_further : (a b c : CoreState S W Map) → Counts s places a b → Counts s places b c → Counts s places a c
  counts_further a b c p q = record {
    queue = omega (arith, p.queue, q.queue);
    nodes = omega (arith, p.nodes, q.nodes);
    within = λ x h. elim (q.within x h) [ inr in' ↦ inr in' | inl g ↦ p.within x g ];
  }

module _ {S W Map : Type 0} {s : Operations W Map} (laws : IsSemiring s) (value : List ℕ → W) (fits_value : (run : List ℕ) → Fits s (value run))
    (runs : Place → List ℕ → Type 0) (side : Side) (places : List Place) where
  pub apply_counts : (st : CoreState S W Map) → IsSoundState s value runs side st → (c : Change W) → IsSoundChange s value runs side st.nodes c
      → IsIn c.goal places → Counts s places st (apply s c st)
  apply_counts st sound c change goal =
      let old = weight_at s c.goal st.transitions in
      let new = s.combine old c.weight in
      let after = lower_state s c new st in
      let fits_old = weights_fit laws value fits_value runs side st sound c.goal in
      let fits_added = change_fits laws value fits_value runs side st.nodes c change in
      let fits_new = laws.fits-combine old c.weight fits_old fits_added in
      let decides = laws.same_is_equal new old fits_new fits_old in
      cond_both (s.same new old) st after (Counts s places st)
      (λ e. counts_itself places st)
      (λ e.
      let changed : new ≡ old → ⊥ = λ h. let f : true ≡ false = sym (decides.1 h) ∙ e in cc in
      let there : entry_at c.goal after.transitions ≡ Some (record { place = c.goal; weight = new; node = length st.nodes }) =
      entry_at-lowered_same c.goal new (length st.nodes) st.transitions in
      let elsewhere : (x : Place) → (c.goal ≡ x → ⊥) → entry_at x after.transitions ≡ entry_at x st.transitions =
      λ x other. entry_at-lowered_other c.goal x new (length st.nodes) st.transitions other in
      let rank_is : s.rank (weight_at s c.goal after.transitions) ≡ s.rank new = ap (λ i. s.rank (weight_of s i)) there in
      let less : s.rank new < s.rank old = laws.rank_falls old c.weight fits_old fits_added changed in
      let falls : (x : Place) → s.rank (weight_at s x after.transitions) ≤ s.rank (weight_at s x st.transitions) = λ x. elim (cases_place c.goal x) [
        | inl same ↦ let P : Place → Type 0 = λ z. s.rank (weight_at s z after.transitions) ≤ s.rank (weight_at s z st.transitions) in subst P same (omega (arith, rank_is, less))
        | inr other ↦ let f : s.rank (weight_at s x after.transitions) ≡ s.rank (weight_at s x st.transitions) = ap (λ i. s.rank (weight_of s i)) (elsewhere x other) in omega (arith, f)
      ] in
      let one : length after.nodes ≡ length st.nodes + 1 = length_push st.nodes (Lower (option_map node_of (entry_at c.goal st.transitions)) c.rule c.first c.second) in
      let more = fallen_more s st.transitions after.transitions falls c.goal (omega (arith, rank_is, less)) (rank_top laws old fits_old) places goal in
      record {
        queue = omega (arith, length_queued c.goal st.queue, one);
        nodes = omega (arith, more, one);
        within = λ x h. elim (cases_place c.goal x) [
          | inl same ↦ let P : Place → Type 0 = λ z. IsIn z places in inr (subst P same goal)
          | inr other ↦ let P : Option (Entry S W Map) → Type 0 = IsSome in inl (subst P (elsewhere x other) h)
        ];
      })

module _ {S W Map : Type 0} {s : Operations W Map} (laws : IsSemiring s) (value : List ℕ → W) (fits_value : (run : List ℕ) → Fits s (value run))
    (runs : Place → List ℕ → Type 0) (d : Tables S W Map) (places : List Place) where
  pub jobs_count : (js : List (Job S W Map)) (st : CoreState S W Map) → IsSoundState s value runs d.side st
      → ((j : Job S W Map) → IsIn j js → IsSoundChange s value runs d.side st.nodes (change_of s d j))
      → ((j : Job S W Map) → IsIn j js → IsIn j.goal places)
      → Counts s places st (apply_jobs s d js st)
  jobs_count [] st sound changes goals = counts_itself places st
  jobs_count (j ∷ js) st sound changes goals =
      let c = change_of s d j in
      let mid = apply s c st in
      let one = apply_keeps laws value fits_value runs d.side st sound c (changes j (inl refl)) in
      let rest = jobs_count js mid one.sound (λ i h. change_later laws value fits_value runs d.side st mid one.grows (change_of s d i) (changes i (inr h))) (λ i h. goals i (inr h)) in
      counts_further places st mid (apply_jobs s d js mid)
      (apply_counts laws value fits_value runs d.side places st sound c (changes j (inl refl)) (goals j (inl refl))) rest

module _ {S W Map : Type 0} {s : Operations W Map} (laws : IsSemiring s) {p : Pushdown S W Map} (fits_value : (run : List ℕ) → Fits s (value_of s p run))
    {o : Opening} {d : Tables S W Map} {places : List Place} (runs : Place → List ℕ → Type 0) (direction : IsDirection s p o d places runs) (opening : List (Entry S W Map)) (fits_opening : (t : Entry S W Map) → IsIn t opening → Fits s t.weight) where
  place_within : (st : CoreState S W Map) → IsWithin places o.edges st → (x : Place) → IsSome (entry_at x st.transitions) → IsIn x places ⊎ IsIn x o.edges
  place_within st within x there =
      let t = some_is (entry_at x st.transitions) there in
      let at : t.0.place ≡ x = entry_at-place x st.transitions t.0 t.1 in
      let P : Place → Type 0 = λ z. IsIn z places ⊎ IsIn z o.edges in
      subst P at (within.transitions t.0 (ap (λ z. entry_at z st.transitions) at ∙ t.1))

  module _ (st : CoreState S W Map) (inv : LockInvariant s (value_of s p) runs d opening st) (within : IsWithin places o.edges st) (seat : ℕ) where
    module _ (h : Holding S W Map) (out : hand_at seat st.hands ≡ Some h) where
      counted : Counts s places st (apply_jobs s d h.jobs st)
      counted = jobs_count laws (value_of s p) fits_value runs d places h.jobs st (state_of inv)
          (λ j in'. job_sound laws fits_value runs direction opening fits_opening st.nodes h.place j ((inv.hands seat h out).jobs j in')) (λ j in'. within.hands seat h out j in')

      pub settle_counts : (hands_stay : (apply_jobs s d h.jobs st).hands ≡ st.hands)
          → WithinRankBound s places st (Settle seat ∷ []) (settle s d seat h st) × IsWithin places o.edges (settle s d seat h st)
      settle_counts hands_stay = (
        record { taken = omega (arith, counted.queue); lowered = counted.nodes },
        record {
          transitions = λ t there. let P : Option (Entry S W Map) → Type 0 = IsSome in
              elim (counted.within t.place (subst P (sym there) refl)) [ inr in' ↦ inl in' | inl before ↦ place_within st within t.place before ];
          hands = λ k g at j in'. let P : List (Option (Holding S W Map)) → Type 0 = λ hands. hand_at k (set hands seat None) ≡ Some g in
              within.hands k g (after_free st.hands seat k g (subst P hands_stay at)) j in';
        },
      )

      give_counts : WithinRankBound s places st (GiveBack seat ∷ []) (give_back s d seat h st) × IsWithin places o.edges (give_back s d seat h st)
      give_counts = (
        record { taken = omega (arith, length_queued h.place st.queue); lowered = omega arith },
        record { transitions = within.transitions; hands = λ k g at j in'. within.hands k g (after_free st.hands seat k g at) j in' },
      )

    pub take_counts : (x : Place) (q : List Place) → st.queue ≡ x ∷ q → (t : Entry S W Map) → entry_at x st.transitions ≡ Some t → seat < length st.hands
        → WithinRankBound s places st (Take seat x ∷ []) (take s d seat x st) × IsWithin places o.edges (take s d seat x st)
    take_counts x q front t here there =
        let Q : List Place → Type 0 = λ r. 1 + length (without_front s d r) + length st.nodes ≤ length r + length st.nodes + 0 in
        let left : Q (x ∷ q) = omega arith in
        let new : Holding S W Map = record { place = x; jobs = jobs_at s d (entry_at x st.transitions) st.transitions } in (
          record { taken = subst Q (sym front) left; lowered = omega arith },
          record {
            transitions = within.transitions;
            hands = λ k g at j in'. elim (cases_eq k seat) [
              | inr other ↦ within.hands k g (sym (get_or-set_other st.hands seat k (Some new) None other) ∙ at) j in'
              | inl same ↦
                  let f : Some new ≡ Some g = sym (get_or-set_same st.hands seat (Some new) None there) ∙ ap (λ i. hand_at i (set st.hands seat (Some new))) (sym same) ∙ at in
                  let e : g ≡ new = cc in
                  let P : Holding S W Map → Type 0 = λ i. IsIn j i.jobs in
                  let T : List (Job S W Map) → Type 0 = IsIn j in
                  let listed : IsIn j (d.jobs st.transitions t) = subst T (ap (λ i. jobs_at s d i st.transitions) here) (subst P e in') in
                  let is = direction.jobs_are st.transitions t j inv.shape.places (ap (λ z. entry_at z st.transitions) (entry_at-place x st.transitions t here) ∙ here) listed in
                  direction.reaches j is.0.row (λ u input. within.transitions u (is.0.inputs u input))
            ];
          },
        )

  step_counts : (st : CoreState S W Map) → LockInvariant s (value_of s p) runs d opening st → IsWithin places o.edges st → (e : Event) (new : CoreState S W Map) → step s d st e ≡ Some new
      → WithinRankBound s places st (e ∷ []) new × IsWithin places o.edges new
  step_counts st inv within (Take seat x) new legal =
      let P : Option (CoreState S W Map) → Type 0 = λ i. i ≡ Some new → WithinRankBound s places st (Take seat x ∷ []) new × IsWithin places o.edges new in
      let Q : CoreState S W Map → Type 0 = λ n. WithinRankBound s places st (Take seat x ∷ []) n × IsWithin places o.edges n in
      cond_both (can_take s d seat x st) (Some (take s d seat x st)) None P
      (λ can same.
      let parts = and_parts (nat_lt seat (length st.hands) && is_none (hand_at seat st.hands)) (is_front s d x st.queue) can in
      let first = and_parts (nat_lt seat (length st.hands)) (is_none (hand_at seat st.hands)) parts.0 in
      let front = front_is laws fits_value runs direction opening fits_opening x st.queue parts.1 in
      let R : List Place → Type 0 = IsIn x in
      let there = some_is (entry_at x st.transitions) (inv.shape.present x (subst R (sym front.1) (inl refl))) in
      let e : take s d seat x st ≡ new = cc in
      subst Q e (take_counts st inv within seat x front.0 front.1 there.0 there.1 (ltb-true seat (length st.hands) first.0)))
      (λ cannot none. cc) legal
  step_counts st inv within (Settle seat) new legal =
      let h = some_step laws fits_value runs direction opening fits_opening (hand_at seat st.hands) (λ g. settle s d seat g st) new legal in
      let Q : CoreState S W Map → Type 0 = λ n. WithinRankBound s places st (Settle seat ∷ []) n × IsWithin places o.edges n in
      let stay = (jobs_keep laws (value_of s p) fits_value runs d h.0.jobs st (state_of inv)
      (λ j in'. job_sound laws fits_value runs direction opening fits_opening st.nodes h.0.place j ((inv.hands seat h.0 h.1).jobs j in'))).grows.hands in
      subst Q h.2 (settle_counts st inv within seat h.0 h.1 stay)
  step_counts st inv within (GiveBack seat) new legal =
      let h = some_step laws fits_value runs direction opening fits_opening (hand_at seat st.hands) (λ g. give_back s d seat g st) new legal in
      let Q : CoreState S W Map → Type 0 = λ n. WithinRankBound s places st (GiveBack seat ∷ []) n × IsWithin places o.edges n in
      subst Q h.2 (give_counts st inv within seat h.0 h.1)

  takes_more : (e : Event) (es : List Event) → (takes (e ∷ es) ≡ takes (e ∷ []) + takes es) × (gives (e ∷ es) ≡ gives (e ∷ []) + gives es)
  takes_more (Take seat x) es = (omega arith, omega arith)
  takes_more (Settle seat) es = (omega arith, omega arith)
  takes_more (GiveBack seat) es = (omega arith, omega arith)

  -- every list of legal events keeps the bound
  pub replay_counts : (es : List Event) (st : CoreState S W Map) → LockInvariant s (value_of s p) runs d opening st → IsWithin places o.edges st → (new : CoreState S W Map) → replay s d st es ≡ Some new
      → WithinRankBound s places st es new × IsWithin places o.edges new
  replay_counts [] st inv within new same =
      let e : st ≡ new = cc in
      let Q : CoreState S W Map → Type 0 = λ n. WithinRankBound s places st [] n × IsWithin places o.edges n in
      subst Q e (record { taken = omega arith; lowered = omega arith }, within)
  replay_counts (e ∷ es) st inv within new legal =
      option_and_then_some (λ m. replay s d m es) (step s d st e) new legal (λ mid one rest.
      let first = step_counts st inv within e mid one in
      let later = replay_counts es mid (step_keeps laws fits_value runs direction opening fits_opening st inv e mid one) first.1 new rest in
      let more = takes_more e es in
      (record { taken = omega (arith, first.0.taken, later.0.taken, more.0, more.1); lowered = omega (arith, first.0.lowered, later.0.lowered) }, later.1))

  pub fallen_le : (ts : List (Entry S W Map)) (xs : List Place) → fallen s ts xs ≤ length xs * s.top_rank
  fallen_le ts [] = omega arith
  fallen_le ts (x ∷ xs) = omega (arith, fallen_le ts xs)

  -- Hence the takes of every list of legal events are bounded, and so are the nodes.
  pub takes_bounded : (es : List Event) (st new : CoreState S W Map) → WithinRankBound s places st es new → takes es ≤ length st.queue + length places * s.top_rank + gives es
  takes_bounded es st new bound = omega (arith, bound.taken, bound.lowered, fallen_le new.transitions places)

  pub nodes_bounded : (es : List Event) (st new : CoreState S W Map) → WithinRankBound s places st es new → length new.nodes ≤ length st.nodes + length places * s.top_rank
  nodes_bounded es st new bound = omega (arith, bound.lowered, fallen_le new.transitions places)
