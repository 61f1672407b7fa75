-- Each event keeps what holds of the locked value.
use Rattle.std.proofs.Common.{◌≡◌, ◌⊎◌, inl, inr, ℕ, ◌<◌, true, List, [], ◌∷◌, length, set, refl, sym, ap, ◌∙◌, subst, arith}
use Rattle.std.specs.Prelude.{Option, None, Some, Bool, IsSome, IfSome, IsTrue, option_map, is_none, is_some, nat_lt, ◌&&◌, ◌||◌}
use Rattle.std.proofs.lemmas.Bool.{cond_both, cases_eq, and_parts, ltb-true}
use Rattle.std.proofs.lemmas.Option.{option_and_then_some}
use Rattle.std.proofs.lemmas.List.{get_or-set_same, get_or-set_other, length-set}
use Rattle.semiring_laws.specs.Semiring.{Operations, IsSemiring, Fits}
use Rattle.weighted_automata.specs.declared.place.Place.{Place}
use Rattle.weighted_automata.specs.declared.transitions.Entry.{Entry}
use Rattle.weighted_automata.specs.Entries.{entry_at, Present}
use Rattle.weighted_automata.proofs.CallerLemmas.{same_place_is, entry_at-place}
use Rattle.witness_graph.specs.declared.node.Node.{Node}
use Rattle.witness_graph.specs.Runs.{runs_of, part_runs}
use Rattle.pushdown_rules.specs.Pushdown.{Pushdown}
use Rattle.pushdown_rules.specs.Values.{value_of}
use Rattle.saturation_laws.specs.declared.job.JobKind.TheVariants.{PostEnter}
use Rattle.saturation_laws.specs.declared.job.Job.{Job}
use Rattle.saturation_laws.specs.declared.opening.Opening.{Opening}
use Rattle.saturation_laws.specs.declared.event.Event.{Event}
use Rattle.saturation_laws.specs.declared.event.Event.TheVariants.{Take, Settle, GiveBack}
use Rattle.saturation_laws.specs.Jobs.{Tables, node_of, HasInput, named_rule, named_first}
use Rattle.wpds_base.specs.Lists.{IsIn, IsOnce}
use Rattle.saturation_laws.specs.declared.holding.Holding.{Holding}
use Rattle.saturation_laws.specs.States.{CoreState, Change, hand_at, apply, apply_all, change_of, apply_jobs, jobs_at, take, settle, give_back, can_take, is_front, without_front, step, replay}
use Rattle.saturation_laws.specs.Directions.{AreRuns, AreInputRuns, IsConsequence, IsDirection}
use Rattle.saturation_laws.specs.Invariants.{IsSound, IsSoundJob, IsSoundHand, IsApplied, IsHeld, IsDue, LockInvariant}
use Rattle.saturation_laws.proofs.QueueLemmas.{in_queued, queued_keeps, queued_cases, once_queued, after_free}
use Rattle.semiring_laws.proofs.CallerLemmas.{below_trans}
use Rattle.saturation_laws.proofs.ValueLemmas.{worth_fits}
use Rattle.saturation_laws.proofs.ApplyChange.{IsSoundState, IsSoundChange, Grows, weights_fit}
use Rattle.saturation_laws.proofs.SettleState.{AppliesAll, apply_keeps, change_later, jobs_keep}

module _ {S W Map : Type 0} where
  some_named : (o : Option (Entry S W Map)) → is_some (option_map node_of o) ≡ is_some o
  some_named None = refl
  some_named (Some t) = refl

  named_first_is : (j : Job S W Map) (t : Entry S W Map) → named_first j ≡ Some t → j.first ≡ Some t
  named_first_is j t = elim j.kind as (λ k. (elim k [ PostEnter ↦ None | _ ↦ j.first ]) ≡ Some t → j.first ≡ Some t) [ PostEnter ↦ λ h. cc | _ ↦ λ h. h ]

  -- the node of a job names what the job names
  part_named : (j : Job S W Map) → IsTrue (is_some (named_rule j) || (is_some (named_first j) || is_some j.second))
      → IsTrue (is_some (named_rule j) || (is_some (option_map node_of (named_first j)) || is_some (option_map node_of j.second)))
  part_named j = let P : Bool → Bool → Type 0 = λ b c. IsTrue (is_some (named_rule j) || (b || c)) in
      λ h. subst (λ c. P (is_some (option_map node_of (named_first j))) c) (sym (some_named j.second)) (subst (λ b. P b (is_some j.second)) (sym (some_named (named_first j))) h)

  one_or_some : (P Q : Entry S W Map → Type 0) (o : Option (Entry S W Map)) → ((t : Entry S W Map) → o ≡ Some t → P t ⊎ Q t)
      → ((t : Entry S W Map) → o ≡ Some t → P t) ⊎ ((t : Entry S W Map) × (o ≡ Some t) × Q t)
  one_or_some P Q None all = inl (λ t e. cc)
  one_or_some P Q (Some u) all = elim (all u refl) [
    | inl p ↦ inl (λ t e. let f : u ≡ t = cc in subst P f p)
    | inr q ↦ inr (u, refl, q)
  ]

  -- each input has one thing, or some input has the other
  pub each_or_some : (j : Job S W Map) (P Q : Entry S W Map → Type 0) → ((t : Entry S W Map) → HasInput j t → P t ⊎ Q t)
      → ((t : Entry S W Map) → HasInput j t → P t) ⊎ ((t : Entry S W Map) × HasInput j t × Q t)
  each_or_some j P Q all = elim (one_or_some P Q j.first (λ t e. all t (inl e))) [
    | inr found ↦ inr (found.0, inl found.1, found.2)
    | inl first ↦ elim (one_or_some P Q j.second (λ t e. all t (inr e))) [
      | inr found ↦ inr (found.0, inr found.1, found.2)
      | inl second ↦ inl (λ t input. elim input [ inl e ↦ first t e | inr e ↦ second t e ])
    ]
  ]

  pub some_is : (i : Option (Entry S W Map)) → IsSome i → (t : Entry S W Map) × (i ≡ Some t)
  some_is None h = cc
  some_is (Some t) h = (t, refl)

  pub state_of : {s : Operations W Map} {value : List ℕ → W} {runs : Place → List ℕ → Type 0} {d : Tables S W Map} {opening : List (Entry S W Map)} {st : CoreState S W Map}
      → LockInvariant s value runs d opening st → IsSoundState s value runs d.side st
  state_of inv = record { nonzero = inv.nonzero; sound = inv.sound; shape = inv.shape }

module _ {S W Map : Type 0} {s : Operations W Map} (laws : IsSemiring s) {p : Pushdown S W Map} (fits_value : (run : List ℕ) → Fits s (value_of s p run))
    {o : Opening} {d : Tables S W Map} {places : List Place} (runs : Place → List ℕ → Type 0) (direction : IsDirection s p o d places runs) (opening : List (Entry S W Map)) (fits_opening : (t : Entry S W Map) → IsIn t opening → Fits s t.weight) where
  abbrev value : List ℕ → W
  value = value_of s p

  input_sound : (nodes : List Node) (i : Option (Entry S W Map)) → ((t : Entry S W Map) → i ≡ Some t → IsSound s value runs d.side nodes t)
      → IfSome (option_map node_of i) (λ k. k < length nodes) × AreInputRuns s value runs i (part_runs (runs_of d.side nodes) (option_map node_of i))
  input_sound nodes None sound = (tt, refl)
  input_sound nodes (Some t) sound = ((sound t refl).node, (sound t refl).are_runs)

  -- a job of a hand is a sound change
  pub job_sound : (nodes : List Node) (x : Place) (j : Job S W Map) → IsSoundJob s value runs d nodes x j → IsSoundChange s value runs d.side nodes (change_of s d j)
  job_sound nodes x j job =
      let first = input_sound nodes (named_first j) (λ t e. job.inputs t (inl (named_first_is j t e))) in
      let second = input_sound nodes j.second (λ t e. job.inputs t (inr e)) in
      record {
        first = first.0;
        second = second.0;
        part = part_named j (direction.names j job.row);
        are_runs = direction.sound j (part_runs (runs_of d.side nodes) (option_map node_of (named_first j))) (part_runs (runs_of d.side nodes) (option_map node_of j.second)) job.row first.1 second.1;
      }

  sound_later : (a b : CoreState S W Map) → Grows s d.side a b → (t : Entry S W Map) → IsSound s value runs d.side a.nodes t → IsSound s value runs d.side b.nodes t
  sound_later a b grows t sound =
      let P : List (List ℕ) → Type 0 = AreRuns s value runs t.place t.weight in
      record { node = omega (arith, sound.node, grows.more); are_runs = subst P (sym (grows.runs t.node sound.node)) sound.are_runs }

  hand_later : (a b : CoreState S W Map) → Grows s d.side a b → (h : Holding S W Map) → IsSoundHand s value runs d a h → IsSoundHand s value runs d b h
  hand_later a b grows h hand = record {
    place = grows.present h.place hand.place;
    jobs = λ j in'. let job = hand.jobs j in' in record { row = job.row; taken = job.taken; inputs = λ t input. sound_later a b grows t (job.inputs t input) };
  }

  -- the candidate of a consequence fits
  consequence_fits : (st : CoreState S W Map) → IsSoundState s value runs d.side st → (j : Job S W Map) → IsConsequence d st.transitions j → Fits s (d.candidate j)
  consequence_fits st sound j there =
      let xs = input_sound st.nodes (named_first j) (λ t e. sound.sound t (there.inputs t (inl (named_first_is j t e)))) in
      let ys = input_sound st.nodes j.second (λ t e. sound.sound t (there.inputs t (inr e))) in
      let P : W → Type 0 = Fits s in
      subst P (sym (direction.sound j (part_runs (runs_of d.side st.nodes) (option_map node_of (named_first j))) (part_runs (runs_of d.side st.nodes) (option_map node_of j.second)) there.row xs.1 ys.1).weight)
      (worth_fits laws value fits_value _)

  -- a hand that stays out
  held_still : (hands : List (Option (Holding S W Map))) (seat : ℕ) (j : Job S W Map) (k : ℕ) (h : Holding S W Map) → hand_at k hands ≡ Some h → IsIn j h.jobs → (k ≡ seat → ⊥)
      → IsHeld (set hands seat None) j
  held_still hands seat j k h at in' other = (k, h, get_or-set_other hands seat k None None other ∙ at, in')

  module _ (st : CoreState S W Map) (inv : LockInvariant s value runs d opening st) (seat : ℕ) (h : Holding S W Map) (out : hand_at seat st.hands ≡ Some h) where
    abbrev given : CoreState S W Map
    given = give_back s d seat h st

    hand : IsSoundHand s value runs d st h
    hand = inv.hands seat h out

    still_due : (j : Job S W Map) → IsDue s d st j → IsDue s d given j
    still_due j (inl applied) = inl applied
    still_due j (inr (inl waiting)) = inr (inl (waiting.0, waiting.1, queued_keeps h.place waiting.0.place st.queue waiting.2))
    still_due j (inr (inr held)) = elim (cases_eq held.0 seat) [
      | inr other ↦ inr (inr (held_still st.hands seat j held.0 held.1 held.2 held.3 other))
      | inl same ↦
          let e : held.1 ≡ h = let f : Some held.1 ≡ Some h = sym held.2 ∙ ap (λ k. hand_at k st.hands) same ∙ out in cc in
          let P : Holding S W Map → Type 0 = λ g. IsIn j g.jobs in
          let job = hand.jobs j (subst P e held.3) in
          let Q : Place → Type 0 = λ x. IsIn x given.queue in
          inr (inl (job.taken.0, job.taken.1, subst Q {y = job.taken.0.place} (sym {a = job.taken.0.place} job.taken.2) (in_queued h.place st.queue)))
    ]

    pub give_back_keeps : LockInvariant s value runs d opening given
    give_back_keeps = record {
      nonzero = inv.nonzero;
      sound = inv.sound;
      opened = inv.opened;
      closed = λ j there. still_due j (inv.closed j there);
      hands = λ k g at. let before = inv.hands k g (after_free st.hands seat k g at) in record { place = before.place; jobs = before.jobs };
      shape = record {
        places = inv.shape.places;
        seats = length-set st.hands seat None ∙ inv.shape.seats;
        queue = once_queued h.place st.queue inv.shape.queue;
        present = λ x in'. elim (queued_cases h.place x st.queue in') [
          | inl e ↦ let P : Place → Type 0 = λ z. IsSome (entry_at z st.transitions) in subst P e hand.place
          | inr q ↦ inv.shape.present x q
        ];
        nodes = inv.shape.nodes;
        tight = inv.shape.tight;
      };
    }

    abbrev done : CoreState S W Map
    done = apply_jobs s d h.jobs st

    settling : AppliesAll s value runs d st h.jobs done
    settling = jobs_keep laws value fits_value runs d h.jobs st (state_of inv) (λ j in'. job_sound st.nodes h.place j (hand.jobs j in'))

    abbrev settled : CoreState S W Map
    settled = settle s d seat h st

    -- what was applied still is
    still_applied : (j : Job S W Map) → Fits s (d.candidate j) → IsApplied s d st.transitions j → IsApplied s d settled.transitions j
    still_applied j fits applied =
        below_trans laws _ _ _ (weights_fit laws value fits_value runs d.side done settling.sound j.goal) (weights_fit laws value fits_value runs d.side st (state_of inv) j.goal) fits
        (settling.grows.weights j.goal) applied

    due_after : (j : Job S W Map) → Fits s (d.candidate j) → IsDue s d st j → IsDue s d settled j
    due_after j fits (inl applied) = inl (still_applied j fits applied)
    due_after j fits (inr (inl waiting)) = inr (inl (waiting.0, waiting.1, settling.grows.queue waiting.0.place waiting.2))
    due_after j fits (inr (inr held)) = elim (cases_eq held.0 seat) [
      | inr other ↦
          let P : List (Option (Holding S W Map)) → Type 0 = λ hands. IsHeld (set hands seat None) j in
          inr (inr (subst P (sym settling.grows.hands) (held_still st.hands seat j held.0 held.1 held.2 held.3 other)))
      | inl same ↦
          let e : held.1 ≡ h = let f : Some held.1 ≡ Some h = sym held.2 ∙ ap (λ k. hand_at k st.hands) same ∙ out in cc in
          let P : Holding S W Map → Type 0 = λ g. IsIn j g.jobs in
          inl (settling.applied j (subst P e held.3))
    ]

    closed_after : (j : Job S W Map) → IsConsequence d settled.transitions j → IsDue s d settled j
    closed_after j there =
        elim (each_or_some j (λ t. Present st.transitions t) (λ t. IsIn t.place settled.queue)
        (λ t input. elim (settling.grows.entries t.place) [ inl same ↦ inl (sym same ∙ there.inputs t input) | inr waits ↦ inr waits ])) [
          | inr found ↦ inr (inl (found.0, found.1, found.2))
          | inl before ↦ due_after j (consequence_fits st (state_of inv) j (record { row = there.row; inputs = before })) (inv.closed j (record { row = there.row; inputs = before }))
        ]

    pub settle_keeps : LockInvariant s value runs d opening settled
    settle_keeps = record {
      nonzero = settling.sound.nonzero;
      sound = settling.sound.sound;
      opened = λ t in'. let before = inv.opened t in' in (
        settling.grows.present t.place before.0,
        below_trans laws _ _ _ (weights_fit laws value fits_value runs d.side done settling.sound t.place) (weights_fit laws value fits_value runs d.side st (state_of inv) t.place) (fits_opening t in')
            (settling.grows.weights t.place) before.1,
      );
      closed = closed_after;
      hands = λ k g at.
          let P : List (Option (Holding S W Map)) → Type 0 = λ hands. hand_at k (set hands seat None) ≡ Some g in
          let before = inv.hands k g (after_free st.hands seat k g (subst P settling.grows.hands at)) in
          let later = hand_later st done settling.grows g before in
          record { place = later.place; jobs = later.jobs };
      shape = record {
        places = settling.sound.shape.places;
        seats = length-set done.hands seat None ∙ settling.sound.shape.seats;
        queue = settling.sound.shape.queue;
        present = settling.sound.shape.present;
        nodes = settling.sound.shape.nodes;
        tight = settling.sound.shape.tight;
      };
    }

  module _ (st : CoreState S W Map) (inv : LockInvariant s value runs d opening st) (seat : ℕ) (x : Place) (q : List Place) (front : st.queue ≡ x ∷ q)
      (t₀ : Entry S W Map) (here : entry_at x st.transitions ≡ Some t₀) (seat_there : seat < length st.hands) (none_out : hand_at seat st.hands ≡ None) where
    abbrev taken : CoreState S W Map
    taken = take s d seat x st

    abbrev new_hand : Holding S W Map
    new_hand = record { place = x; jobs = jobs_at s d (entry_at x st.transitions) st.transitions }

    present_front : Present st.transitions t₀
    present_front = ap (λ z. entry_at z st.transitions) (entry_at-place x st.transitions t₀ here) ∙ here

    jobs_are_its : new_hand.jobs ≡ d.jobs st.transitions t₀
    jobs_are_its = ap (λ i. jobs_at s d i st.transitions) here

    hand_out : hand_at seat taken.hands ≡ Some new_hand
    hand_out = get_or-set_same st.hands seat (Some new_hand) None seat_there

    due_taken : (j : Job S W Map) → IsConsequence d st.transitions j → IsDue s d st j → IsDue s d taken j
    due_taken j there (inl applied) = inl applied
    due_taken j there (inr (inl waiting)) =
        let P : List Place → Type 0 = IsIn waiting.0.place in
        elim (subst P front waiting.2) [
          | inr h ↦ let Q : List Place → Type 0 = λ r. IsIn waiting.0.place (without_front s d r) in inr (inl (waiting.0, waiting.1, subst Q (sym front) h))
          | inl e ↦
              let found : entry_at x st.transitions ≡ Some waiting.0 = ap (λ z. entry_at z st.transitions) e ∙ there.inputs waiting.0 waiting.1 in
              let same : waiting.0 ≡ t₀ = let f : Some waiting.0 ≡ Some t₀ = sym found ∙ here in cc in
              let R : Entry S W Map → Type 0 = HasInput j in
              let T : List (Job S W Map) → Type 0 = IsIn j in
              inr (inr (seat, new_hand, hand_out, subst T (sym jobs_are_its) (direction.jobs_all st.transitions t₀ j inv.shape.places present_front there (subst R same waiting.1))))
        ]
    due_taken j there (inr (inr held)) =
        let other : held.0 ≡ seat → ⊥ = λ e. let f : Some held.1 ≡ None = sym held.2 ∙ ap (λ k. hand_at k st.hands) e ∙ none_out in cc in
        inr (inr (held.0, held.1, get_or-set_other st.hands seat held.0 (Some new_hand) None other ∙ held.2, held.3))

    new_hand_sound : IsSoundHand s value runs d taken new_hand
    new_hand_sound = record {
      place = let P : Option (Entry S W Map) → Type 0 = IsSome in subst P (sym here) refl;
      jobs = λ j in'.
          let T : List (Job S W Map) → Type 0 = IsIn j in
          let is = direction.jobs_are st.transitions t₀ j inv.shape.places present_front (subst T jobs_are_its in') in
          record {
            row = is.0.row;
            taken = (t₀, is.1, entry_at-place x st.transitions t₀ here);
            inputs = λ t input. inv.sound t (is.0.inputs t input);
          };
    }

    pub take_keeps : LockInvariant s value runs d opening taken
    take_keeps =
        let queue : IsOnce (x ∷ q) = subst IsOnce front inv.shape.queue in
        record {
          nonzero = inv.nonzero;
          sound = inv.sound;
          opened = inv.opened;
          closed = λ j there. due_taken j there (inv.closed j there);
          hands = λ k g at. elim (cases_eq k seat) [
            | inl same ↦
                let f : Some new_hand ≡ Some g = sym hand_out ∙ ap (λ i. hand_at i taken.hands) (sym same) ∙ at in
                let e : new_hand ≡ g = cc in
                let P : Holding S W Map → Type 0 = IsSoundHand s value runs d taken in subst P e new_hand_sound
            | inr other ↦
                let before = inv.hands k g (sym (get_or-set_other st.hands seat k (Some new_hand) None other) ∙ at) in
                record { place = before.place; jobs = before.jobs }
          ];
          shape = record {
            places = inv.shape.places;
            seats = length-set st.hands seat (Some new_hand) ∙ inv.shape.seats;
            queue = let P : List Place → Type 0 = λ r. IsOnce (without_front s d r) in subst P (sym front) queue.1;
            present = λ y in'. let P : List Place → Type 0 = λ r. IsIn y (without_front s d r) in
                let Q : List Place → Type 0 = IsIn y in
                inv.shape.present y (subst Q (sym front) (inr (subst P front in')));
            nodes = inv.shape.nodes;
            tight = inv.shape.tight;
          };
        }

  pub front_is : (x : Place) (q : List Place) → is_front s d x q ≡ true → (r : List Place) × (q ≡ x ∷ r)
  front_is x [] h = cc
  front_is x (y ∷ q) h = (q, ap (λ z. z ∷ q) (same_place_is y x h))

  pub none_is : (i : Option (Holding S W Map)) → is_none i ≡ true → i ≡ None
  none_is None h = refl
  none_is (Some g) h = cc

  pub some_step : (i : Option (Holding S W Map)) (f : Holding S W Map → CoreState S W Map) (new : CoreState S W Map) → option_map f i ≡ Some new → (h : Holding S W Map) × (i ≡ Some h) × (f h ≡ new)
  some_step None f new e = cc
  some_step (Some h) f new e = (h, refl, cc)

  -- each legal event keeps it
  pub step_keeps : (st : CoreState S W Map) → LockInvariant s value runs d opening st → (e : Event) (new : CoreState S W Map) → step s d st e ≡ Some new → LockInvariant s value runs d opening new
  step_keeps st inv (Take seat x) new legal =
      let P : Option (CoreState S W Map) → Type 0 = λ i. i ≡ Some new → LockInvariant s value runs d opening new in
      cond_both (can_take s d seat x st) (Some (take s d seat x st)) None P
      (λ can same.
      let parts = and_parts (nat_lt seat (length st.hands) && is_none (hand_at seat st.hands)) (is_front s d x st.queue) can in
      let first = and_parts (nat_lt seat (length st.hands)) (is_none (hand_at seat st.hands)) parts.0 in
      let front = front_is x st.queue parts.1 in
      let Q : List Place → Type 0 = IsIn x in
      let there = some_is (entry_at x st.transitions) (inv.shape.present x (subst Q (sym front.1) (inl refl))) in
      let e : take s d seat x st ≡ new = cc in
      subst (LockInvariant s value runs d opening) e
      (take_keeps st inv seat x front.0 front.1 there.0 there.1 (ltb-true seat (length st.hands) first.0) (none_is (hand_at seat st.hands) first.1)))
      (λ cannot none. cc) legal
  step_keeps st inv (Settle seat) new legal =
      let h = some_step (hand_at seat st.hands) (λ g. settle s d seat g st) new legal in
      subst (LockInvariant s value runs d opening) h.2 (settle_keeps st inv seat h.0 h.1)
  step_keeps st inv (GiveBack seat) new legal =
      let h = some_step (hand_at seat st.hands) (λ g. give_back s d seat g st) new legal in
      subst (LockInvariant s value runs d opening) h.2 (give_back_keeps st inv seat h.0 h.1)

  -- and so does every list of legal events
  pub replay_keeps : (es : List Event) (st : CoreState S W Map) → LockInvariant s value runs d opening st → (new : CoreState S W Map) → replay s d st es ≡ Some new → LockInvariant s value runs d opening new
  replay_keeps [] st inv new same = let e : st ≡ new = cc in subst (LockInvariant s value runs d opening) e inv
  replay_keeps (e ∷ es) st inv new legal =
      option_and_then_some (λ m. replay s d m es) (step s d st e) new legal (λ mid one rest. replay_keeps es mid (step_keeps st inv e mid one) new rest)

  -- one change keeps it, whatever hands are out
  change_keeps : (st : CoreState S W Map) → LockInvariant s value runs d opening st → (c : Change W) → IsSoundChange s value runs d.side st.nodes c
      → LockInvariant s value runs d opening (apply s c st)
  change_keeps st inv c change =
      let kept = apply_keeps laws value fits_value runs d.side st (state_of inv) c change in
      let new = apply s c st in
      record {
        nonzero = kept.sound.nonzero;
        sound = kept.sound.sound;
        opened = λ t in'. let before = inv.opened t in' in (
          kept.grows.present t.place before.0,
          below_trans laws _ _ _ (weights_fit laws value fits_value runs d.side new kept.sound t.place) (weights_fit laws value fits_value runs d.side st (state_of inv) t.place) (fits_opening t in')
              (kept.grows.weights t.place) before.1,
        );
        closed = λ j there.
            elim (each_or_some j (λ t. Present st.transitions t) (λ t. IsIn t.place new.queue)
            (λ t input. elim (kept.grows.entries t.place) [ inl same ↦ inl (sym same ∙ there.inputs t input) | inr waits ↦ inr waits ])) [
              | inr found ↦ inr (inl (found.0, found.1, found.2))
              | inl before ↦
                  let was : IsConsequence d st.transitions j = record { row = there.row; inputs = before } in
                  elim (inv.closed j was) [
                    | inl applied ↦ inl (below_trans laws _ _ _ (weights_fit laws value fits_value runs d.side new kept.sound j.goal) (weights_fit laws value fits_value runs d.side st (state_of inv) j.goal)
                        (consequence_fits st (state_of inv) j was) (kept.grows.weights j.goal) applied)
                    | inr due ↦ elim due [
                      | inl waiting ↦ inr (inl (waiting.0, waiting.1, kept.grows.queue waiting.0.place waiting.2))
                      | inr held ↦ inr (inr (held.0, held.1, ap (hand_at held.0) kept.grows.hands ∙ held.2, held.3))
                    ]
                  ]
            ];
        hands = λ k g at.
            let Q : List (Option (Holding S W Map)) → Type 0 = λ hands. hand_at k hands ≡ Some g in
            hand_later st new kept.grows g (inv.hands k g (subst Q kept.grows.hands at));
        shape = kept.sound.shape;
      }

  -- and so do changes one after another, which are sound where they begin
  pub changes_keep : (cs : List (Change W)) (st : CoreState S W Map) → LockInvariant s value runs d opening st
      → ((c : Change W) → IsIn c cs → IsSoundChange s value runs d.side st.nodes c) → LockInvariant s value runs d opening (apply_all s cs st)
  changes_keep [] st inv all = inv
  changes_keep (c ∷ cs) st inv all =
      let kept = apply_keeps laws value fits_value runs d.side st (state_of inv) c (all c (inl refl)) in
      changes_keep cs (apply s c st) (change_keeps st inv c (all c (inl refl)))
      (λ e h. change_later laws value fits_value runs d.side st (apply s c st) kept.grows e (all e (inr h)))
