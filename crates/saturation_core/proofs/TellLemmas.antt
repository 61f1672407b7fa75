-- A hand that was taken still tells, whatever events of other seats come.
use Rattle.std.proofs.Common.{◌≡◌, inl, inr, ℕ, true, ◌+◌, ◌<◌, ◌≤◌, List, [], ◌∷◌, ◌++◌, length, get_or, refl, sym, ap, ap₂, ◌∙◌, subst, arith}
use Rattle.std.specs.Prelude.{◌≢◌, ◌&&◌, nat_lt, All, IfSome, None, Option, Some, is_none, option_and_then, option_map}
use Rattle.std.specs.List.{AllByRecursion}
use Rattle.std.proofs.lemmas.Bool.{and_parts, cond_both, ltb-true}
use Rattle.std.proofs.lemmas.List.{append_assoc, append-nil, get_or-set_same, length-map, length_push}
use Rattle.std.proofs.lemmas.List.Elements.{All-append, All-from_recursion, All-nil}
use Rattle.std.proofs.lemmas.Option.{get_or_from_slice_get, same_Some, slice_get-map, slice_get_within}
use Rattle.semiring_laws.specs.Semiring.{Operations}
use Rattle.weighted_automata.specs.declared.place.Place.{Place}
use Rattle.weighted_automata.specs.declared.transitions.Entry.{Entry}
use Rattle.weighted_automata.specs.Entries.{entry_at, lowered, Present}
use Rattle.weighted_automata.proofs.CallerLemmas.{cases_place, entry_at-place, entry_at-lowered_same, entry_at-lowered_other}
use Rattle.pushdown_rules.specs.Pushdown.{Pushdown}
use Rattle.saturation_laws.specs.declared.event.Event.{Event}
use Rattle.saturation_laws.specs.declared.event.Event.TheVariants.{Take, Settle, GiveBack}
use Rattle.saturation_laws.specs.declared.holding.Holding.{Holding}
use Rattle.saturation_laws.specs.declared.job.Job.{Job}
use Rattle.saturation_laws.specs.Jobs.{Tables, node_of}
use Rattle.saturation_laws.specs.States.{AreOfOthers, Change, CoreState, apply, apply_jobs, can_take, change_of, give_back, hand_at, is_front, jobs_at, lower_state, replay, seat_of, settle, step, take, weight_at}
use Rattle.saturation_laws.specs.Directions.{AgreeOn}
use Rattle.saturation_laws.specs.Books.{BookValue, IsBook, Makes, opened_by, replayed}
use Rattle.saturation_laws.specs.Ways.{Way}
use Rattle.saturation_laws.proofs.CallerLemmas.{others_leave, replay_append}
use Rattle.saturation_core.specs.declared.hand.Hand.{Hand}
use Rattle.saturation_core.specs.declared.hand.Taken.TheVariants.{Hand as InHand}
use Rattle.saturation_core.specs.Calls.{AnswersTake}
use Rattle.saturation_core.specs.DoneValue.{DoneValue}
use Rattle.saturation_core.specs.Goals.{StillTell, StillTells, goals_of}
use Rattle.saturation_core.specs.HandsOut.{HasOut, IsLater}
use Rattle.saturation_core.specs.Settled.{CanSettle, jobs_of, jobs_out}

module _ {S W Map : Type 0} (s : Operations W Map) (d : Tables S W Map) where
  -- a seat that has taken a transition could take it
  pub took : (seat : ℕ) (x : Place) (st mid : CoreState S W Map) → step s d st (Take seat x) ≡ Some mid → (can_take s d seat x st ≡ true) × (take s d seat x st ≡ mid)
  took seat x st mid legal =
      let P : Option (CoreState S W Map) → Type 0 = λ o. o ≡ Some mid → (can_take s d seat x st ≡ true) × (take s d seat x st ≡ mid) in
      cond_both (can_take s d seat x st) (Some (take s d seat x st)) None P
      (λ can e. (can, same_Some (take s d seat x st) mid e))
      (λ cannot e. cc) legal

  -- the hand of a place that is taken
  abbrev pub hand_for : Place → CoreState S W Map → Holding S W Map
  hand_for x st = record { place = x; jobs = jobs_at s d (entry_at x st.transitions) st.transitions }

  pub hand_taken : (seat : ℕ) (x : Place) (st mid : CoreState S W Map) → step s d st (Take seat x) ≡ Some mid → hand_at seat mid.hands ≡ Some (hand_for x st)
  hand_taken seat x st mid legal =
      let taken = took seat x st mid legal in
      let parts = and_parts (nat_lt seat (length st.hands) && is_none (hand_at seat st.hands)) (is_front s d x st.queue) taken.0 in
      let within = ltb-true seat (length st.hands) (and_parts (nat_lt seat (length st.hands)) (is_none (hand_at seat st.hands)) parts.0).0 in
      ap (λ (m : CoreState S W Map). hand_at seat m.hands) (sym taken.1) ∙ get_or-set_same st.hands seat (Some (hand_for x st)) None within

module _ {S W Map : Type 0} where
  -- What was seen at the goals of jobs tells now, and will: a transition whose weight changes gets a node that is not there yet.
  record AreSeen (st : CoreState S W Map) (jobs : List (Job S W Map)) (goals : List (Option (Entry S W Map))) : Type 0 where
    pub tell : StillTell st.transitions jobs goals
    pub nodes : All (λ seen. IfSome seen (λ t. t.node < length st.nodes)) goals

  -- a node that is below a number
  abbrev IsBelow : ℕ → Option (Entry S W Map) → Type 0
  IsBelow n seen = IfSome seen (λ t. t.node < n)

  below_more : (seen : Option (Entry S W Map)) (m n : ℕ) → m ≤ n → IsBelow m seen → IsBelow n seen
  below_more None m n more below = tt
  below_more (Some t) m n more below = let b : t.node < m = below in let here : t.node < n = omega (arith, b, more) in here

  not_next : (seen : Option (Entry S W Map)) (n : ℕ) → IsBelow n seen → option_map node_of seen ≡ Some n → ⊥
  not_next None n below is = cc
  not_next (Some t) n below is = let b : t.node < n = below in let e : t.node ≡ n = same_Some t.node n is in absurd (omega (arith, b, e))

  -- What was seen in one state, by nodes of it, tells in another.
  record TellsOn (old new : CoreState S W Map) : Type 0 where
    pub nodes : length old.nodes ≤ length new.nodes
    pub tell : (x : Place) (seen : Option (Entry S W Map)) → IsBelow (length old.nodes) seen → StillTells old.transitions x seen → StillTells new.transitions x seen

  stays : (old new : CoreState S W Map) → new.transitions ≡ old.transitions → new.nodes ≡ old.nodes → TellsOn old new
  stays old new ts ns = record {
    nodes = omega (arith, ap length ns);
    tell = λ x seen below tells. subst (λ us. StillTells us x seen) (sym ts) tells;
  }

  and_on : (old mid new : CoreState S W Map) → TellsOn old mid → TellsOn mid new → TellsOn old new
  and_on old mid new one two = record {
    nodes = omega (arith, one.nodes, two.nodes);
    tell = λ x seen below tells. two.tell x seen (below_more seen (length old.nodes) (length mid.nodes) one.nodes below) (one.tell x seen below tells);
  }

  seen_on : (js : List (Job S W Map)) (goals : List (Option (Entry S W Map))) (old new : CoreState S W Map) → TellsOn old new → AreSeen old js goals → AreSeen new js goals
  seen_on js goals old new on seen =
      let n = length old.nodes in
      record {
        tell = record {
          long = seen.tell.long;
          each = λ k j g at at'.
              let below : IsBelow n g = subst (IsBelow n) (get_or_from_slice_get goals k g g at') (seen.nodes k g (slice_get_within goals k g at')) in
              on.tell j.goal g below (seen.tell.each k j g at at');
        };
        nodes = λ k d within. below_more (get_or goals k d) n (length new.nodes) on.nodes (seen.nodes k d within);
      }

  -- what is there is seen
  module _ (st : CoreState S W Map) (bound : (t : Entry S W Map) → Present st.transitions t → t.node < length st.nodes) where
    node_below : (x : Place) (o : Option (Entry S W Map)) → entry_at x st.transitions ≡ o → IsBelow (length st.nodes) o
    node_below x None at = tt
    node_below x (Some t) at = bound t (ap (λ z. entry_at z st.transitions) (entry_at-place x st.transitions t at) ∙ at)

    nodes_below : (js : List (Job S W Map)) → AllByRecursion (IsBelow (length st.nodes)) (goals_of js st.transitions)
    nodes_below [] = tt
    nodes_below (j ∷ js) = (node_below j.goal (entry_at j.goal st.transitions) refl, nodes_below js)

    seen_first : (js : List (Job S W Map)) → AreSeen st js (goals_of js st.transitions)
    seen_first js =
        let goal : Job S W Map → Option (Entry S W Map) = λ j. entry_at j.goal st.transitions in
        record {
          tell = record {
            long = length-map js goal;
            each = λ k j g at at' same. same_Some (goal j) g (sym (slice_get-map goal js k ∙ ap (option_map goal) at) ∙ at');
          };
          nodes = All-from_recursion (IsBelow (length st.nodes)) (goals_of js st.transitions) (nodes_below js);
        }

module _ {S W Map : Type 0} (s : Operations W Map) where
  lowered_on : (c : Change W) (w : W) (st : CoreState S W Map) → TellsOn st (lower_state s c w st)
  lowered_on c w st =
      let n = length st.nodes in
      let us = lowered c.goal w n st.transitions in
      let grown : length (lower_state s c w st).nodes ≡ n + 1 = length_push st.nodes _ in
      record {
        nodes = omega (arith, grown);
        tell = λ x seen below tells same. elim (cases_place c.goal x) [
          | inl here ↦
              let new : Entry S W Map = record { place = x; weight = w; node = n } in
              let there : entry_at x us ≡ Some new = ap (λ y. entry_at x (lowered y w n st.transitions)) here ∙ entry_at-lowered_same x w n st.transitions in
              absurd (not_next seen n below (sym same ∙ ap (option_map node_of) there))
          | inr other ↦
              let stands : entry_at x us ≡ entry_at x st.transitions = entry_at-lowered_other c.goal x w n st.transitions other in
              stands ∙ tells (ap (option_map node_of) (sym stands) ∙ same)
        ];
      }

  applied_on : (c : Change W) (st : CoreState S W Map) → TellsOn st (apply s c st)
  applied_on c st =
      let old = weight_at s c.goal st.transitions in
      let new = s.combine old c.weight in
      let P : CoreState S W Map → Type 0 = TellsOn st in
      cond_both (s.same new old) st (lower_state s c new st) P (λ _. stays st st refl refl) (λ _. lowered_on c new st)

module _ {S W Map : Type 0} (s : Operations W Map) (d : Tables S W Map) where
  jobs_on : (js : List (Job S W Map)) (st : CoreState S W Map) → TellsOn st (apply_jobs s d js st)
  jobs_on [] st = stays st st refl refl
  jobs_on (j ∷ js) st =
      let mid = apply s (change_of s d j) st in
      and_on st mid (apply_jobs s d js mid) (applied_on s (change_of s d j) st) (jobs_on js mid)

  taken_on : (seat : ℕ) (x : Place) (st new : CoreState S W Map) → step s d st (Take seat x) ≡ Some new → TellsOn st new
  taken_on seat x st new legal =
      let taken = (took s d seat x st new legal).1 in
      stays st new (ap (λ (m : CoreState S W Map). m.transitions) (sym taken)) (ap (λ (m : CoreState S W Map). m.nodes) (sym taken))

  settled_on : (seat : ℕ) (st new : CoreState S W Map) (o : Option (Holding S W Map)) → option_map (λ h. settle s d seat h st) o ≡ Some new → TellsOn st new
  settled_on seat st new None e = cc
  settled_on seat st new (Some h) e =
      let mid = apply_jobs s d h.jobs st in
      subst (TellsOn st) (same_Some (settle s d seat h st) new e) (and_on st mid (settle s d seat h st) (jobs_on h.jobs st) (stays mid (settle s d seat h st) refl refl))

  given_on : (seat : ℕ) (st new : CoreState S W Map) (o : Option (Holding S W Map)) → option_map (λ h. give_back s d seat h st) o ≡ Some new → TellsOn st new
  given_on seat st new None e = cc
  given_on seat st new (Some h) e = subst (TellsOn st) (same_Some (give_back s d seat h st) new e) (stays st (give_back s d seat h st) refl refl)

  step_on : (e : Event) (st new : CoreState S W Map) → step s d st e ≡ Some new → TellsOn st new
  step_on (Take seat x) st new legal = taken_on seat x st new legal
  step_on (Settle seat) st new legal = settled_on seat st new (hand_at seat st.hands) legal
  step_on (GiveBack seat) st new legal = given_on seat st new (hand_at seat st.hands) legal

  replay_on : (es : List Event) (st new : CoreState S W Map) → replay s d st es ≡ Some new → TellsOn st new
  replay_on [] st new h = subst (TellsOn st) (same_Some st new h) (stays st st refl refl)
  replay_on (e ∷ es) st new h = elim (step s d st e) as (λ o. step s d st e ≡ o → option_and_then (λ m. replay s d m es) o ≡ Some new → TellsOn st new) [
    | None ↦ λ at h. cc
    | Some m ↦ λ at h. and_on st m new (step_on e st m at) (replay_on es m new h)
  ] refl h

  -- events that begin where others end
  replays_on : (es fs : List Event) (e : Event) (old mid last new : CoreState S W Map) → replay s d old es ≡ Some mid → step s d mid e ≡ Some last → replay s d old ((es ++ e ∷ []) ++ fs) ≡ Some new
      → replay s d last fs ≡ Some new
  replays_on es fs e old mid last new first one all =
      let to_last : replay s d old (es ++ e ∷ []) ≡ Some last =
      replay_append s d es (e ∷ []) old ∙ ap (option_and_then (λ m. replay s d m (e ∷ []))) first ∙ ap (option_and_then (λ m. replay s d m [])) one in
      sym (ap (option_and_then (λ m. replay s d m fs)) to_last) ∙ sym (replay_append s d (es ++ e ∷ []) fs old) ∙ all

-- a system agrees with itself
agrees_at : {X : Type 0} (f : ℕ → X) (o : Option ℕ) → IfSome o (λ k. f k ≡ f k)
agrees_at f None = tt
agrees_at f (Some k) = refl

agrees : {S W Map : Type 0} (p : Pushdown S W Map) (js : List (Job S W Map)) → AllByRecursion (AgreeOn p p) js
agrees p [] = tt
agrees p (j ∷ js) = (record { semiring = refl; rule = agrees_at _ j.rule; frame = agrees_at _ j.frame }, agrees p js)

module _ {S W Map D : Type 0} (operations : S → Operations W Map) (way : Way S W Map D) where
  -- a hand that was just taken is out
  pub out_taken : (old new : BookValue S W Map D) (seat : ℕ) (hand : Hand S W Map) → IsBook operations way old → AnswersTake operations way old seat (InHand hand) new
      → HasOut operations way new seat hand.jobs hand.goals
  out_taken old new seat hand book taken = record {
    asked = old;
    given = new;
    since = [];
    book = book;
    taken = (taken.0, taken.1, ap (λ (k : Hand S W Map). record { seat = seat; jobs = k.jobs; goals = k.goals }) taken.2);
    later = ap (λ (es : List Event). record new { journal = es }) (sym (append-nil new.journal));
    others = All-nil (λ e. seat ≢ seat_of e);
  }

  -- and stays so while the events are of other seats
  pub out_later : (old new : BookValue S W Map D) (es : List Event) (seat : ℕ) (jobs : List (Job S W Map)) (goals : List (Option (Entry S W Map))) → HasOut operations way old seat jobs goals → IsLater old es new → AreOfOthers seat es
      → HasOut operations way new seat jobs goals
  out_later old new es seat jobs goals h later others = record {
    asked = h.asked;
    given = h.given;
    since = h.since ++ es;
    book = h.book;
    taken = h.taken;
    later = later
        ∙ ap (λ (z : BookValue S W Map D). record z { state = new.state; journal = z.journal ++ es }) h.later
        ∙ ap (λ (fs : List Event). record h.given { state = new.state; journal = fs }) (append_assoc h.given.journal h.since es);
    others = All-append (λ e. seat ≢ seat_of e) h.since es h.others others;
  }

  pub out_event : (old new : BookValue S W Map D) (e : Event) (seat : ℕ) (jobs : List (Job S W Map)) (goals : List (Option (Entry S W Map))) → HasOut operations way old seat jobs goals → Makes operations way old e new → seat ≢ seat_of e
      → HasOut operations way new seat jobs goals
  out_event old new e seat jobs goals h made other =
      let state : made.0 ≡ new.state = sym (ap (λ (z : BookValue S W Map D). z.state) made.2) in
      let later : IsLater old (e ∷ []) new = made.2 ∙ ap (λ (st : CoreState S W Map). record old { state = st; journal = old.journal ++ e ∷ [] }) state in
      out_later old new (e ∷ []) seat jobs goals h later (All-from_recursion (λ f. seat ≢ seat_of f) (e ∷ []) (other, tt))

  -- What follows of a hand that is out of a book.
  module _ (b : BookValue S W Map D) (replays : replayed operations way b ≡ Some b.state) (seat : ℕ) (jobs : List (Job S W Map)) (goals : List (Option (Entry S W Map))) (h : HasOut operations way b seat jobs goals) where
    abbrev s : Operations W Map
    s = operations h.asked.system.semiring

    abbrev d : Tables S W Map
    d = way.tables h.asked.direction h.asked.system

    -- the state after the hand was taken
    abbrev first : CoreState S W Map
    first = h.taken.1.0

    out_first : jobs_out seat first.hands ≡ Some jobs
    out_first = ap (option_map jobs_of) (hand_taken s d seat h.taken.0 h.asked.state first h.taken.1.1) ∙ ap (λ (k : Hand S W Map). Some k.jobs) (sym h.taken.2)

    seen_taken : AreSeen first jobs goals
    seen_taken =
        let listed : List (Job S W Map) = jobs_at s d (entry_at h.taken.0 h.asked.state.transitions) h.asked.state.transitions in
        let seen : AreSeen h.asked.state listed (goals_of listed h.asked.state.transitions) = seen_first h.asked.state (λ t there. (h.book.lock.sound t there).node) listed in
        seen_on jobs goals h.asked.state first (taken_on s d seat h.taken.0 h.asked.state first h.taken.1.1)
        (subst (λ (k : Hand S W Map). AreSeen h.asked.state k.jobs k.goals) (sym h.taken.2) seen)

    -- the events since then lead to the book
    since_then : replay s d first h.since ≡ Some b.state
    since_then =
        let is : b ≡ record h.asked { state = b.state; journal = (h.asked.journal ++ Take seat h.taken.0 ∷ []) ++ h.since } =
        h.later ∙ ap (λ (z : BookValue S W Map D). record z { state = b.state; journal = z.journal ++ h.since }) h.taken.1.2 in
        let P : BookValue S W Map D → Type 0 = λ z. replayed operations way z ≡ Some z.state in
        replays_on s d h.asked.journal h.since (Take seat h.taken.0) (opened_by operations way h.asked) h.asked.state first b.state h.book.replays h.taken.1.1 (subst P is replays)

    -- it tells
    pub out_tells : (jobs_out seat b.state.hands ≡ Some jobs) × StillTell b.state.transitions jobs goals
    out_tells = (
      ap (option_map jobs_of) (others_leave s d h.since first b.state seat since_then h.others) ∙ out_first,
      (seen_on jobs goals first b.state (replay_on s d h.since first b.state since_then) seen_taken).tell,
    )

  -- and what was worked out of it can be settled
  pub out_settles : (b : BookValue S W Map D) (w : DoneValue S W Map D) → replayed operations way b ≡ Some b.state → HasOut operations way b w.seat w.jobs w.goals → w.system ≡ b.system → w.direction ≡ b.direction
      → CanSettle way b w
  out_settles b w replays h system direction =
      let told = out_tells b replays w.seat w.jobs w.goals h in
      let P : Pushdown S W Map → Type 0 = λ p. AllByRecursion (AgreeOn b.system p) w.jobs in
      record {
        hand = told.0;
        side = ap₂ (λ f p. (way.tables f p).side) direction system;
        semiring = ap (λ (p : Pushdown S W Map). p.semiring) (sym system);
        rules = All-from_recursion (AgreeOn b.system w.system) w.jobs (subst P (sym system) (agrees b.system w.jobs));
        goals = told.1;
      }
