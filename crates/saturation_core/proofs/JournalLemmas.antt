-- The events of a journal with the places of their transitions, as both grow.
use Rattle.std.proofs.Common.{◌≡◌, ℕ, ◌+◌, ◌<◌, ◌≤◌, List, [], ◌∷◌, ◌++◌, length, append_assoc, append-nil, refl, sym, ap, ◌∙◌, subst, arith}
use Rattle.std.specs.Prelude.{Some, option_map, slice_get, nat_eq, if◌then◌else◌}
use Rattle.std.specs.List.{cons_option}
use Rattle.std.proofs.lemmas.Bool.{cond_both}
use Rattle.std.proofs.lemmas.List.{length-map, length-append}
use Rattle.std.proofs.lemmas.List.Elements.{filter_map-append}
use Rattle.std.proofs.lemmas.Option.{slice_get_within}
use Rattle.semiring_laws.specs.Semiring.{Operations}
use Rattle.weighted_automata.specs.declared.place.Place.{Place}
use Rattle.weighted_automata.specs.declared.transitions.Entry.{Entry}
use Rattle.weighted_automata.specs.Entries.{index_at, places_of}
use Rattle.saturation_laws.specs.declared.event.Event.TheVariants as event
use Rattle.saturation_laws.specs.declared.job.Job.{Job}
use Rattle.saturation_laws.specs.Bound.{takes, takes_of}
use Rattle.saturation_laws.specs.Jobs.{Tables}
use Rattle.saturation_laws.specs.States.{CoreState, Change, weight_at, lower_state, apply, apply_jobs, change_of}
use Rattle.saturation_laws.proofs.CallerLemmas.{all_append, indexed}
use Rattle.saturation_core.specs.declared.plan.Planned.{Planned}
use Rattle.saturation_core.specs.JournalEvents.{NumberedEvent, Take, Settle, GiveBack}
use Rattle.saturation_core.specs.declared.found.Found.{Found}
use Rattle.saturation_core.specs.private.Plans.{put, put_all}
use Rattle.saturation_core.specs.private.Steps.{Becomes, with_hands}
use Rattle.saturation_core.specs.private.Written.{event_at, events_at, IsThere, AreThere, takes_in, takes_in_of}
use Rattle.saturation_core.proofs.QueuedLemmas.{left_of, place_indexed, place_number, places_grow}

module _ {S W Map : Type 0} where
  -- places are added, and none goes
  abbrev pub Grows : List (Entry S W Map) → List (Entry S W Map) → Type 0
  Grows ts us = (more : List Place) × (places_of us ≡ places_of ts ++ more)

  grows_itself : (ts : List (Entry S W Map)) → Grows ts ts
  grows_itself ts = ([], sym (append-nil (places_of ts)))

  grows_on : (ts us vs : List (Entry S W Map)) → Grows ts us → Grows us vs → Grows ts vs
  grows_on ts us vs one two = (one.0 ++ two.0, two.1 ∙ ap (λ ps. ps ++ two.0) one.1 ∙ append_assoc (places_of ts) one.0 two.0)

  pub put_grows : (ls : List (Planned S W Map)) (st : CoreState S W Map) → Grows st.transitions (put_all ls st).transitions
  put_grows [] st = grows_itself st.transitions
  put_grows (l ∷ ls) st =
      grows_on st.transitions (put l st).transitions (put_all ls (put l st)).transitions (places_grow l.goal l.weight (length st.nodes) st.transitions) (put_grows ls (put l st))

  module _ (s : Operations W Map) (d : Tables S W Map) where
    apply_grows : (c : Change W) (st : CoreState S W Map) → Grows st.transitions (apply s c st).transitions
    apply_grows c st =
        let new = s.combine (weight_at s c.goal st.transitions) c.weight in
        cond_both (s.same new (weight_at s c.goal st.transitions)) st (lower_state s c new st) (λ u. Grows st.transitions u.transitions)
        (λ e. grows_itself st.transitions) (λ e. places_grow c.goal new (length st.nodes) st.transitions)

    pub apply_jobs_grow : (js : List (Job S W Map)) (st : CoreState S W Map) → Grows st.transitions (apply_jobs s d js st).transitions
    apply_jobs_grow [] st = grows_itself st.transitions
    apply_jobs_grow (j ∷ js) st =
        let mid = apply s (change_of s d j) st in
        grows_on st.transitions mid.transitions (apply_jobs s d js mid).transitions (apply_grows (change_of s d j) st) (apply_jobs_grow js mid)

  pub put_grows_to : (plan : List (Planned S W Map)) (old roomy new : Found S W Map) → Becomes old (λ st. st) roomy → Becomes roomy (put_all plan) new → Grows old.transitions.transitions new.transitions.transitions
  put_grows_to plan old roomy new same made =
      let g = put_grows plan (with_hands roomy []) in
      (g.0, ap (λ st. places_of st.transitions) (made []) ∙ g.1 ∙ ap (λ st. places_of st.transitions ++ g.0) (same []))

  pub jobs_grow_to : (s : Operations W Map) (d : Tables S W Map) (js : List (Job S W Map)) (old new : Found S W Map) → Becomes old (apply_jobs s d js) new → Grows old.transitions.transitions new.transitions.transitions
  jobs_grow_to s d js old new made =
      let g = apply_jobs_grow s d js (with_hands old []) in
      (g.0, ap (λ st. places_of st.transitions) (made []) ∙ g.1)

  -- where places are added, events keep theirs
  module _ (ts us : List (Entry S W Map)) (grows : Grows ts us) where
    longer : length ts ≤ length us
    longer =
        let long = ap length grows.1 in
        omega (arith, long, length-append (places_of ts) grows.0, length-map ts (λ (t : Entry S W Map). t.place), length-map us (λ (t : Entry S W Map). t.place))

    still_with : (e : NumberedEvent) → IsThere ts e → event_at us e ≡ event_at ts e
    still_with (Take seat k) within =
        let h : k < length ts = within in
        ap (option_map (λ x. event.Take seat x)) (ap (λ ps. slice_get ps k) grows.1 ∙ left_of (places_of ts) grows.0 k (omega (arith, h, length-map ts (λ (t : Entry S W Map). t.place))))
    still_with (Settle seat) within = refl
    still_with (GiveBack seat) within = refl

    pub events_stay : (es : List NumberedEvent) → AreThere ts es → events_at us es ≡ events_at ts es
    events_stay [] there = refl
    events_stay (e ∷ es) there = ap (λ o. cons_option o (events_at us es)) (still_with e there.0) ∙ ap (cons_option (event_at ts e)) (events_stay es there.1)

    there_one : (e : NumberedEvent) → IsThere ts e → IsThere us e
    there_one (Take seat k) within = let h : k < length ts = within in omega (arith, h, longer)
    there_one (Settle seat) within = tt
    there_one (GiveBack seat) within = tt

    pub there_stay : (es : List NumberedEvent) → AreThere ts es → AreThere us es
    there_stay [] there = tt
    there_stay (e ∷ es) there = (there_one e there.0, there_stay es there.1)

  -- one event more
  module _ (ts : List (Entry S W Map)) (es new : List NumberedEvent) (seat : ℕ) where
    module _ (k : ℕ) (x : Place) (at : index_at x ts ≡ Some k) (last : new ≡ es ++ Take seat k ∷ []) where
      pub take_then : events_at ts new ≡ events_at ts es ++ event.Take seat x ∷ []
      take_then =
          ap (events_at ts) last ∙ filter_map-append (event_at ts) es (Take seat k ∷ [])
          ∙ ap (λ o. events_at ts es ++ cons_option (option_map (λ y. event.Take seat y) o) []) (place_indexed x ts k at)

      pub take_there : AreThere ts es → AreThere ts new
      take_there there =
          let number = indexed x ts k at in
          subst (AreThere ts) (sym last) (all_append (IsThere ts) es (Take seat k ∷ []) there (slice_get_within ts k number.0 number.1, tt))

    module _ (last : new ≡ es ++ Settle seat ∷ []) where
      pub settle_then : events_at ts new ≡ events_at ts es ++ event.Settle seat ∷ []
      settle_then = ap (events_at ts) last ∙ filter_map-append (event_at ts) es (Settle seat ∷ [])

      pub settle_there : AreThere ts es → AreThere ts new
      settle_there there = subst (AreThere ts) (sym last) (all_append (IsThere ts) es (Settle seat ∷ []) there (tt, tt))

    module _ (last : new ≡ es ++ GiveBack seat ∷ []) where
      pub give_then : events_at ts new ≡ events_at ts es ++ event.GiveBack seat ∷ []
      give_then = ap (events_at ts) last ∙ filter_map-append (event_at ts) es (GiveBack seat ∷ [])

      pub give_there : AreThere ts es → AreThere ts new
      give_there there = subst (AreThere ts) (sym last) (all_append (IsThere ts) es (GiveBack seat ∷ []) there (tt, tt))

  -- as many take, with places and without
  module _ (ts : List (Entry S W Map)) where
    pub takes_with : (es : List NumberedEvent) → AreThere ts es → takes (events_at ts es) ≡ takes_in es
    takes_with [] there = refl
    takes_with (Take seat k ∷ es) there =
        let x = place_number ts k there.0 in
        ap (λ o. takes (cons_option (option_map (λ y. event.Take seat y) o) (events_at ts es))) x.1 ∙ ap (λ n. 1 + n) (takes_with es there.1)
    takes_with (Settle seat ∷ es) there = ap (λ n. 0 + n) (takes_with es there.1)
    takes_with (GiveBack seat ∷ es) there = ap (λ n. 0 + n) (takes_with es there.1)

    pub takes_with_of : (s : ℕ) (es : List NumberedEvent) → AreThere ts es → takes_of s (events_at ts es) ≡ takes_in_of s es
    takes_with_of s [] there = refl
    takes_with_of s (Take seat k ∷ es) there =
        let x = place_number ts k there.0 in
        ap (λ o. takes_of s (cons_option (option_map (λ y. event.Take seat y) o) (events_at ts es))) x.1
        ∙ ap (λ n. (if nat_eq seat s then 1 else 0) + n) (takes_with_of s es there.1)
    takes_with_of s (Settle seat ∷ es) there = ap (λ n. 0 + n) (takes_with_of s es there.1)
    takes_with_of s (GiveBack seat ∷ es) there = ap (λ n. 0 + n) (takes_with_of s es there.1)
