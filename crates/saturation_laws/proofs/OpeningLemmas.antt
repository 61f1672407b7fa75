-- A saturation opens with every transition queued.
use Rattle.std.proofs.Common.{◌≡◌, ℕ, true, false, List, [], ◌∷◌, ◌++◌, refl, sym, ap, ◌∙◌}
use Rattle.std.specs.Prelude.{cond}
use Rattle.std.proofs.lemmas.Bool.{cond_both}
use Rattle.semiring_laws.specs.Semiring.{Operations}
use Rattle.weighted_automata.specs.declared.place.Place.{Place}
use Rattle.weighted_automata.specs.declared.transitions.Entry.{Entry}
use Rattle.weighted_automata.specs.Places.{same_place, has_place}
use Rattle.weighted_automata.specs.Entries.{lowered, places_of}
use Rattle.weighted_automata.proofs.CallerLemmas.{same_place_is}
use Rattle.witness_graph.specs.declared.node.Side.{Side}
use Rattle.pushdown_rules.specs.Pushdown.{Pushdown}
use Rattle.saturation_laws.specs.Queues.{queued}
use Rattle.saturation_laws.specs.States.{CoreState, Change, weight_at, lower_state, apply, apply_all}
use Rattle.saturation_laws.specs.Openings.{pops, with_edge, with_edges, bare, opening_state}

module _ {S W Map : Type 0} (x : Place) (w : W) (n : ℕ) where
  -- a place that is lowered is queued as it is added
  places-lowered : (ts : List (Entry S W Map)) → places_of (lowered x w n ts) ≡ queued x (places_of ts)
  places-lowered [] = refl
  places-lowered (t ∷ ts) =
      let ps = places_of ts in
      elim (same_place t.place x) as (λ b. same_place t.place x ≡ b → places_of (cond b (record { place = x; weight = w; node = n } ∷ ts) (t ∷ lowered x w n ts))
      ≡ cond (Rattle.std.specs.Prelude.◌||◌ b (has_place x ps)) (t.place ∷ ps) (t.place ∷ (ps ++ x ∷ []))) [
        | true ↦ λ e. ap (λ y. y ∷ ps) (sym (same_place_is t.place x e))
        | false ↦ λ e. ap (λ ys. t.place ∷ ys) (places-lowered ts)
            ∙ (elim (has_place x ps) as (λ b. t.place ∷ cond b ps (ps ++ x ∷ []) ≡ cond b (t.place ∷ ps) (t.place ∷ (ps ++ x ∷ []))) [ true ↦ refl | false ↦ refl ])
      ] refl

module _ {S W Map : Type 0} (s : Operations W Map) where
  -- every transition is queued, in order
  abbrev IsQueued : CoreState S W Map → Type 0
  IsQueued st = places_of st.transitions ≡ st.queue

  apply_queues : (c : Change W) (st : CoreState S W Map) → IsQueued st → IsQueued (apply s c st)
  apply_queues c st all =
      let old = weight_at s c.goal st.transitions in
      let new = s.combine old c.weight in
      cond_both (s.same new old) st (lower_state s c new st) IsQueued (λ _. all)
      (λ _. places-lowered c.goal new _ st.transitions ∙ ap (queued c.goal) all)

  all_queue : (cs : List (Change W)) (st : CoreState S W Map) → IsQueued st → IsQueued (apply_all s cs st)
  all_queue [] st all = all
  all_queue (c ∷ cs) st all = all_queue cs (apply s c st) (apply_queues c st all)

  edges_queue : (xs : List Place) (st : CoreState S W Map) → IsQueued st → IsQueued (with_edges s xs st)
  edges_queue [] st all = all
  edges_queue (x ∷ xs) st all = edges_queue xs (with_edge s x st) (places-lowered x s.one 0 st.transitions ∙ ap (queued x) all)

  pub opening_queues : (side : Side) (p : Pushdown S W Map) (edges : List Place) → places_of (opening_state s side p edges).transitions ≡ (opening_state s side p edges).queue
  opening_queues side p edges = all_queue (pops side p.rules) (with_edges s edges (bare s)) (edges_queue edges (bare s) refl)
