-- What holds of every search, and that it ends.
use Rattle.std.proofs.Common.{◌≡◌, ◌⊎◌, inl, inr, ℕ, true, false, map, zero, suc, ◌+◌, ◌-◌, ◌*◌, ◌<◌, ◌≤◌, set, List, [], ◌∷◌, length, refl, sym, ap, ◌∙◌, subst, arith}
use Rattle.std.specs.Prelude.{Option, None, Some, IsSome, IsTrue, cond, replicate}
use Rattle.std.proofs.lemmas.List.{get_or-set_same}
use Rattle.semiring_laws.specs.Semiring.{Operations, IsSemiring, Fits}
use Rattle.weighted_automata.specs.declared.place.Place.{Place}
use Rattle.weighted_automata.specs.declared.transitions.Entry.{Entry}
use Rattle.weighted_automata.specs.Entries.{entry_at}
use Rattle.pushdown_rules.specs.Pushdown.{Pushdown, IsSystem}
use Rattle.pushdown_rules.specs.Values.{value_of}
use Rattle.pushdown_rules.proofs.CallerLemmas.{value_fits}
use Rattle.wpds_base.specs.Lists.{IsIn}
use Rattle.saturation_laws.specs.declared.opening.Opening.{Opening}
use Rattle.saturation_laws.specs.declared.holding.Holding.{Holding}
use Rattle.saturation_laws.specs.declared.job.Job.{Job}
use Rattle.saturation_laws.specs.Jobs.{Tables}
use Rattle.saturation_laws.specs.States.{CoreState, Change, hand_at, weight_at, take, give_back, without_front, lower_state, apply, apply_all, change_of, apply_jobs}
use Rattle.saturation_laws.specs.Directions.{IsDirection, IsConsequence}
use Rattle.saturation_laws.specs.Invariants.{LockInvariant, IsApplied}
use Rattle.saturation_laws.specs.Bound.{fallen}
use Rattle.saturation_laws.specs.Searches.{SearchValue, IsDone, IsSearch, search_from, hand_of, turned, stopped, turns_left}
use Rattle.saturation_laws.specs.Ways.{Way, IsLawful, start_of, HaveFitWeights}
use Rattle.saturation_laws.proofs.ApplyChange.{Grows, IsSoundChange, IsSoundState}
use Rattle.weighted_automata.proofs.CallerLemmas.{entry_at-place}
use Rattle.witness_graph.specs.Runs.{runs_of}
use Rattle.saturation_laws.specs.Queues.{queued}
use Rattle.saturation_laws.specs.Bound.{IsWithin}
use Rattle.saturation_laws.proofs.ListMembers.{from_map}
use Rattle.saturation_laws.proofs.EventsKeepBound.{take_counts, settle_counts, fallen_le, apply_counts}
use Rattle.saturation_laws.proofs.EventsKeepInvariant.{state_of, job_sound, some_is, take_keeps, give_back_keeps, changes_keep, settle_keeps}
use Rattle.saturation_laws.proofs.HandJobs.{transitions_fit}
use Rattle.saturation_laws.proofs.OpeningState.{none_out, opening_opened, opening_locked, opening_within, opening_fits}
use Rattle.saturation_laws.proofs.SettleState.{jobs_keep, apply_keeps, change_later, grows_itself, grows_further}

module _ {S W Map : Type 0} where
  -- a seat without a hand that gets one and gives it away
  set_back : (hs : List (Option (Holding S W Map))) (k : ℕ) (o : Option (Holding S W Map)) → hand_at k hs ≡ None → set (set hs k o) k None ≡ hs
  set_back [] k o e = refl
  set_back (g ∷ hs) zero o e = ap (λ z. z ∷ hs) (sym e)
  set_back (g ∷ hs) (suc k) o e = ap (λ zs. g ∷ zs) (set_back hs k o e)

-- what is left falls where the queue grows by less than ranks fall
fewer : (n q q' f f' : ℕ) → f' ≤ n → f ≤ f' → q' + f + 1 ≤ q + f' → q' + (n - f') < q + (n - f)
fewer n q q' f f' most falls less = omega arith

module _ {S W Map D : Type 0} (operations : S → Operations W Map) (laws : (x : S) → IsSemiring (operations x)) (way : Way S W Map D)
    (direction : IsLawful operations way) where
  -- a search that was just begun
  pub search_begun : (p : Pushdown S W Map) (d : D) (o : Opening) → IsSystem operations p → IsTrue (way.fits_opening d p o) → IsSearch operations way (search_from operations way p d o)
  search_begun p d o valid fits =
      let law = laws p.semiring in
      let value = value_fits valid law in
      let rs = way.runs d p o in
      let dir = direction d p o valid fits in
      record {
        system = valid;
        fits = fits;
        lock = opening_locked law value rs dir;
        within = opening_within law value rs dir;
        free = (opening_opened law value rs dir).hands;
        start = (opening_opened law value rs dir).start;
      }

  -- where nothing waits every consequence is applied
  pub search_applies : (v : SearchValue S W Map D) → IsSearch operations way v → IsDone v → (j : Job S W Map)
      → IsConsequence (way.tables v.direction v.system) v.state.transitions j → IsApplied (operations v.system.semiring) (way.tables v.direction v.system) v.state.transitions j
  search_applies v is done j there = elim (is.lock.closed j there) [
    | inl applied ↦ applied
    | inr due ↦ elim due [
      | inl waiting ↦ let P : List Place → Type 0 = IsIn waiting.0.place in absurd (subst P done waiting.2)
      | inr held ↦ let f : Some held.1 ≡ None = sym held.2 ∙ ap (hand_at held.0) is.free ∙ none_out 64 held.0 in cc
    ]
  ]

  module _ (v : SearchValue S W Map D) (is : IsSearch operations way v) (x : Place) (q : List Place) (front : v.state.queue ≡ x ∷ q) where
    abbrev s : Operations W Map
    s = operations v.system.semiring

    abbrev d : Tables S W Map
    d = way.tables v.direction v.system

    abbrev places : List Place
    places = way.places v.direction v.system v.opening

    abbrev begun : List (Entry S W Map)
    begun = (start_of operations way v.direction v.system v.opening).transitions

    abbrev rs : Place → List ℕ → Type 0
    rs = way.runs v.direction v.system v.opening

    value : (run : List ℕ) → Fits s (value_of s v.system run)
    value = value_fits is.system (laws v.system.semiring)

    dir : IsDirection s v.system v.opening d places rs
    dir = direction v.direction v.system v.opening is.system is.fits

    fit : (t : Entry S W Map) → IsIn t begun → Fits s t.weight
    fit = opening_fits (laws v.system.semiring) value rs dir

    none : hand_at 0 v.state.hands ≡ None
    none = ap (hand_at 0) is.free ∙ none_out 64 0

    seats : 0 < length v.state.hands
    seats = let all : length v.state.hands ≡ 64 = is.lock.shape.seats in omega (arith, all)

    there : (t : Entry S W Map) × (entry_at x v.state.transitions ≡ Some t)
    there = let P : List Place → Type 0 = IsIn x in some_is (entry_at x v.state.transitions) (is.lock.shape.present x (subst P (sym front) (inl refl)))

    -- the state while the first seat has its hand
    abbrev meanwhile : CoreState S W Map
    meanwhile = take s d 0 x v.state

    meanwhile_locked : LockInvariant s (value_of s v.system) rs d begun meanwhile
    meanwhile_locked = take_keeps (laws v.system.semiring) value rs dir begun fit v.state is.lock 0 x q front there.0 there.1 seats none

    hand_is : hand_at 0 meanwhile.hands ≡ Some (hand_of operations way v x)
    hand_is = get_or-set_same v.state.hands 0 (Some (hand_of operations way v x)) None seats

    grows : Grows s d.side meanwhile (apply_jobs s d (hand_of operations way v x).jobs meanwhile)
    grows = (jobs_keep (laws v.system.semiring) (value_of s v.system) value rs d (hand_of operations way v x).jobs meanwhile (state_of meanwhile_locked)
        (λ j in'. job_sound (laws v.system.semiring) value rs dir begun fit meanwhile.nodes x j ((meanwhile_locked.hands 0 (hand_of operations way v x) hand_is).jobs j in'))).grows

    -- a turn makes a search of a search
    pub search_turns : IsSearch operations way (turned operations way x v)
    search_turns =
        let taken = take_counts (laws v.system.semiring) value rs dir begun fit v.state is.lock is.within 0 x q front there.0 there.1 seats in
        let settled = settle_counts (laws v.system.semiring) value rs dir begun fit meanwhile meanwhile_locked taken.1 0 (hand_of operations way v x) hand_is grows.hands in
        record {
          system = is.system;
          fits = is.fits;
          lock = settle_keeps (laws v.system.semiring) value rs dir begun fit meanwhile meanwhile_locked 0 (hand_of operations way v x) hand_is;
          within = settled.1;
          start = (omega (arith, grows.more, is.start.0), grows.runs 0 is.start.0 ∙ is.start.1);
          free = ap (λ hs. set hs 0 None) grows.hands ∙ set_back v.state.hands 0 (Some (hand_of operations way v x)) none ∙ is.free;
        }

    -- and fewer are left
    pub search_falls : turns_left operations way (turned operations way x v) < turns_left operations way v
    search_falls =
        let taken = take_counts (laws v.system.semiring) value rs dir begun fit v.state is.lock is.within 0 x q front there.0 there.1 seats in
        let settled = settle_counts (laws v.system.semiring) value rs dir begun fit meanwhile meanwhile_locked taken.1 0 (hand_of operations way v x) hand_is grows.hands in
        let new = turned operations way x v in
        let most = fallen_le (laws v.system.semiring) value rs dir begun fit new.state.transitions places in
        let one = taken.0.taken in
        let two = settled.0.taken in
        let rank = settled.0.lowered in
        fewer (length places * s.top_rank) (length v.state.queue) (length new.state.queue) (fallen s v.state.transitions places) (fallen s new.state.transitions places)
        most (omega (arith, rank, grows.more)) (omega (arith, one, two, rank))

    -- ---- a turn that is cut short

    -- a change leaves the hands as they are, and does the same whatever they are
    abbrev with_hands : List (Option (Holding S W Map)) → CoreState S W Map → CoreState S W Map
    with_hands hs st = record { transitions = st.transitions; nodes = st.nodes; queue = st.queue; hands = hs }

    apply_hands : (hs : List (Option (Holding S W Map))) (c : Change W) (st : CoreState S W Map) → apply s c (with_hands hs st) ≡ with_hands hs (apply s c st)
    apply_hands hs c st =
        let old = weight_at s c.goal st.transitions in
        let w = s.combine old c.weight in
        elim (s.same w old) as (λ b. cond b (with_hands hs st) (lower_state s c w (with_hands hs st)) ≡ with_hands hs (cond b st (lower_state s c w st))) [
          | true ↦ refl
          | false ↦ refl
        ]

    all_hands : (hs : List (Option (Holding S W Map))) (cs : List (Change W)) (st : CoreState S W Map) → apply_all s cs (with_hands hs st) ≡ with_hands hs (apply_all s cs st)
    all_hands hs [] st = refl
    all_hands hs (c ∷ cs) st = ap (apply_all s cs) (apply_hands hs c st) ∙ all_hands hs cs (apply s c st)

    module _ (cs : List (Change W)) (its : (c : Change W) → IsIn c cs → IsIn c (map (change_of s d) (hand_of operations way v x).jobs)) where
      abbrev partly : CoreState S W Map
      partly = apply_all s cs meanwhile

      sound_all : (c : Change W) → IsIn c cs → IsSoundChange s (value_of s v.system) rs d.side meanwhile.nodes c
      sound_all c h =
          let found = from_map (change_of s d) c (hand_of operations way v x).jobs (its c h) in
          let P : Change W → Type 0 = IsSoundChange s (value_of s v.system) rs d.side meanwhile.nodes in
          subst P found.is (job_sound (laws v.system.semiring) value rs dir begun fit meanwhile.nodes x found.before ((meanwhile_locked.hands 0 (hand_of operations way v x) hand_is).jobs found.before found.there))

      partly_locked : LockInvariant s (value_of s v.system) rs d begun partly
      partly_locked = changes_keep (laws v.system.semiring) value rs dir begun fit cs meanwhile meanwhile_locked sound_all

      -- what the changes make of the state, next to the one before
      record IsGrown (a b : CoreState S W Map) : Type 0 where
        pub sound : IsSoundState s (value_of s v.system) rs d.side b
        pub grows : Grows s d.side a b
        pub within : (y : Place) → IsSome (entry_at y b.transitions) → IsSome (entry_at y a.transitions) ⊎ IsIn y places

      grown_all : (es : List (Change W)) (a : CoreState S W Map) → IsSoundState s (value_of s v.system) rs d.side a
          → ((c : Change W) → IsIn c es → IsSoundChange s (value_of s v.system) rs d.side a.nodes c × IsIn c.goal places) → IsGrown a (apply_all s es a)
      grown_all [] a sound all = record { sound = sound; grows = grows_itself (laws v.system.semiring) (value_of s v.system) value rs d.side a sound; within = λ y h. inl h }
      grown_all (c ∷ es) a sound all =
          let law = laws v.system.semiring in
          let one = all c (inl refl) in
          let b = apply s c a in
          let kept = apply_keeps law (value_of s v.system) value rs d.side a sound c one.0 in
          let counts = apply_counts law (value_of s v.system) value rs d.side places a sound c one.0 one.1 in
          let rest = grown_all es b kept.sound (λ e h. (change_later law (value_of s v.system) value rs d.side a b kept.grows e (all e (inr h)).0, (all e (inr h)).1)) in
          record {
            sound = rest.sound;
            grows = grows_further law (value_of s v.system) value rs d.side a b (apply_all s es b) sound kept.sound rest.sound kept.grows rest.grows;
            within = λ y h. elim (rest.within y h) [ inr place ↦ inr place | inl was ↦ counts.within y was ];
          }

      taken_within : IsWithin places v.opening.edges meanwhile
      taken_within = (take_counts (laws v.system.semiring) value rs dir begun fit v.state is.lock is.within 0 x q front there.0 there.1 seats).1

      goal_within : (c : Change W) → IsIn c cs → IsIn c.goal places
      goal_within c h =
          let found = from_map (change_of s d) c (hand_of operations way v x).jobs (its c h) in
          let P : Change W → Type 0 = λ e. IsIn e.goal places in
          subst P found.is (taken_within.hands 0 (hand_of operations way v x) hand_is found.before found.there)

      was_within : (y : Place) → IsSome (entry_at y v.state.transitions) → IsIn y places ⊎ IsIn y v.opening.edges
      was_within y h =
          let t = some_is (entry_at y v.state.transitions) h in
          let at : t.0.place ≡ y = entry_at-place y v.state.transitions t.0 t.1 in
          let P : Place → Type 0 = λ z. IsIn z places ⊎ IsIn z v.opening.edges in
          subst P at (is.within.transitions t.0 (ap (λ z. entry_at z v.state.transitions) at ∙ t.1))

      grown : IsGrown meanwhile partly
      grown = grown_all cs meanwhile (state_of meanwhile_locked) (λ c h. (sound_all c h, goal_within c h))

      abbrev given : CoreState S W Map
      given = give_back s d 0 (hand_of operations way v x) partly

      given_locked : LockInvariant s (value_of s v.system) rs d begun given
      given_locked = give_back_keeps (laws v.system.semiring) value rs dir begun fit partly partly_locked 0 (hand_of operations way v x) (ap (hand_at 0) grown.grows.hands ∙ hand_is)

      abbrev hands_given : List (Option (Holding S W Map))
      hands_given = set v.state.hands 0 (Some (hand_of operations way v x))

      abbrev base : CoreState S W Map
      base = record { transitions = v.state.transitions; nodes = v.state.nodes; queue = q; hands = v.state.hands }

      abbrev waits_again : CoreState S W Map → CoreState S W Map
      waits_again b = record { transitions = b.transitions; nodes = b.nodes; queue = queued x b.queue; hands = v.state.hands }

      partly_is : partly ≡ with_hands hands_given (apply_all s cs base)
      partly_is =
          ap (λ r. apply_all s cs (record { transitions = v.state.transitions; nodes = v.state.nodes; queue = r; hands = hands_given })) (ap (without_front s d) front)
          ∙ all_hands hands_given cs base

      base_hands : apply_all s cs base ≡ with_hands v.state.hands (apply_all s cs base)
      base_hands = all_hands v.state.hands cs base

      given_is : given ≡ waits_again (apply_all s cs base)
      given_is =
          ap (λ b. give_back s d 0 (hand_of operations way v x) b) partly_is
          ∙ ap (λ hs. let b = apply_all s cs base in let c : CoreState S W Map = record { transitions = b.transitions; nodes = b.nodes; queue = queued x b.queue; hands = hs } in c)
          (set_back v.state.hands 0 (Some (hand_of operations way v x)) none)

      stopped_is : given ≡ (stopped operations way x q cs v).state
      stopped_is = given_is ∙ ap (λ (b : CoreState S W Map). let c : CoreState S W Map = record { transitions = b.transitions; nodes = b.nodes; queue = queued x b.queue; hands = b.hands } in c) (sym base_hands)

      -- a turn that is cut short leaves a search
      pub search_stops : IsSearch operations way (stopped operations way x q cs v)
      search_stops =
          let L : CoreState S W Map → Type 0 = LockInvariant s (value_of s v.system) rs d begun in
          let I : CoreState S W Map → Type 0 = IsWithin places v.opening.edges in
          let F : CoreState S W Map → Type 0 = λ b. b.hands ≡ replicate 64 None in
          let B : CoreState S W Map → Type 0 = λ b. (0 < length b.nodes) × (runs_of d.side b.nodes 0 ≡ [] ∷ []) in
          let free : given.hands ≡ replicate 64 None = ap (λ hs. set hs 0 None) grown.grows.hands ∙ set_back v.state.hands 0 (Some (hand_of operations way v x)) none ∙ is.free in
          let within : I given = record {
            transitions = λ t there'. let P : Option (Entry S W Map) → Type 0 = IsSome in
                elim (grown.within t.place (subst P (sym there') refl)) [ inr place ↦ inl place | inl was ↦ was_within t.place was ];
            hands = λ seat h at. let f : Some h ≡ None = sym at ∙ ap (hand_at seat) free ∙ none_out 64 seat in cc;
          } in
          record {
            system = is.system;
            fits = is.fits;
            lock = subst L stopped_is given_locked;
            within = subst I stopped_is within;
            free = subst F stopped_is free;
            start = subst B stopped_is (omega (arith, grown.grows.more, is.start.0), grown.grows.runs 0 is.start.0 ∙ is.start.1);
          }
