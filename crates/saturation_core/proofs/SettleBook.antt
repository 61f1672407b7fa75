-- What a book is after it has settled a hand.
use Rattle.std.proofs.Common.{◌≡◌, ◌<◌, inl, inr, ℕ, ◌+◌, List, [], ◌∷◌, ◌++◌, length, map, refl, sym, ap, ap₂, ◌∙◌, subst, arith}
use Rattle.std.specs.Prelude.{◌↔◌, All, Bool, Result, Ok, Err, OnErr, Option, None, Some, IfSome, IsTrue, option_map, slice_set}
use Rattle.std.specs.List.{AllByRecursion}
use Rattle.std.proofs.lemmas.Option.{same_Some}
use Rattle.std.proofs.lemmas.List.{get_or-set_same, length-map}
use Rattle.std.proofs.lemmas.List.Elements.{All-from_recursion, recursion_from_All}
use Rattle.semiring_laws.specs.Semiring.{Operations, IsSemiring, Fits}
use Rattle.weighted_automata.specs.declared.transitions.Entry.{Entry}
use Rattle.pushdown_rules.specs.Pushdown.{Pushdown}
use Rattle.pushdown_rules.specs.Values.{value_of}
use Rattle.pushdown_rules.proofs.CallerLemmas.{value_fits}
use Rattle.saturation_laws.specs.declared.job.Job.{Job}
use Rattle.saturation_laws.specs.declared.holding.Holding.{Holding}
use Rattle.saturation_core.specs.declared.found.Found.{Found}
use Rattle.saturation_core.specs.declared.plan.Planned.{Planned}
use Rattle.saturation_laws.specs.declared.event.Event.{Event}
use Rattle.saturation_laws.specs.declared.event.Event.TheVariants.{Settle, Take}
use Rattle.weighted_automata.specs.declared.place.Place.{Place}
use Rattle.witness_graph.specs.declared.node.Node.{Node}
use Rattle.saturation_laws.specs.Jobs.{Tables, InputsFit}
use Rattle.wpds_base.specs.Lists.{IsIn}
use Rattle.saturation_laws.specs.States.{CoreState, Change, hand_at, change_of, apply_jobs, free, settle}
use Rattle.saturation_laws.specs.Openings.{AreKept}
use Rattle.saturation_laws.specs.Directions.{AgreeOn, HaveSameCandidates}
use Rattle.saturation_laws.specs.Books.{BookValue, opened_by, Makes, IsBook}
use Rattle.saturation_core.specs.Seats.{hands_out}
use Rattle.saturation_core.specs.private.Plans.{changes_with, put_all, AreNodesFrom, plan_of}
use Rattle.saturation_core.specs.private.Steps.{with_hands, Becomes, IsFitChange}
use Rattle.saturation_core.specs.DoneValue.{DoneValue}
use Rattle.saturation_core.specs.Goals.{StillTell}
use Rattle.saturation_core.specs.Settled.{jobs_of, jobs_out, IsWorked, CanSettle}
use Rattle.saturation_laws.proofs.CallerLemmas.{worth_fits, change_fits, job_sound, opening_fits, book_works, event_keeps}
use Rattle.saturation_core.proofs.PutPlan.{nodes_added, plan_is, apply_jobs_is, plan_nodes}
use Rattle.saturation_core.proofs.HandLemmas.{hands_out-freed, moved, seat_within}
use Rattle.saturation_laws.specs.Ways.{Way, IsLawful, HasOneCandidate}

-- what holds anyway holds on a refusal
pub on_refusal : {T E P : Type 0} (r : Result T E) → P → OnErr r P
on_refusal (Ok x) h = tt
on_refusal (Err e) h = h

module _ {S W Map : Type 0} where
  -- the hand whose jobs were read
  pub held : (o : Option (Holding S W Map)) (js : List (Job S W Map)) → option_map jobs_of o ≡ Some js → (h : Holding S W Map) × (o ≡ Some h) × (h.jobs ≡ js)
  held None js e = cc
  held (Some h) js e = (h, refl, same_Some h.jobs js e)

  -- one hand fewer, where it goes
  pub one_out : (hs : List (Option (Holding S W Map))) (seat : ℕ) (js : List (Job S W Map)) → jobs_out seat hs ≡ Some js → hands_out hs ≡ 1 + hands_out (slice_set hs seat None)
  one_out hs seat js out = let h = held (hand_at seat hs) js out in hands_out-freed hs seat h.0 h.1

  pub seat_out : (hs : List (Option (Holding S W Map))) (seat : ℕ) (js : List (Job S W Map)) → jobs_out seat hs ≡ Some js → seat < length hs
  seat_out hs seat js out = let h = held (hand_at seat hs) js out in seat_within hs seat h.0 h.1

  -- the state that lowerings begin with
  pub put_on : (plan : List (Planned S W Map)) (old roomy new : Found S W Map) → Becomes old (λ st. st) roomy → Becomes roomy (put_all plan) new → Becomes old (put_all plan) new
  put_on plan old roomy new same made hands = made hands ∙ ap (put_all plan) (same hands)

  worths_of : (s : Operations W Map) (m : ℕ) (candidate : Job S W Map → W) (js : List (Job S W Map)) → AllByRecursion (IsFitChange s m) (changes_with js (map candidate js)) → AllByRecursion (Fits s) (map candidate js)
  worths_of s m candidate [] fit = tt
  worths_of s m candidate (j ∷ js) fit = (fit.0.weight, worths_of s m candidate js fit.1)

  -- tables that have the same candidates have them for all jobs
  same_worths : (p q : Pushdown S W Map) (d e : Tables S W Map) → HaveSameCandidates d e p q → d.side ≡ e.side → (js : List (Job S W Map)) → AllByRecursion (AgreeOn p q) js → map e.candidate js ≡ map d.candidate js
  same_worths p q d e same side [] agree = refl
  same_worths p q d e same side (j ∷ js) agree = ap₂ (λ w ws. w ∷ ws) (sym (same j side agree.0)) (same_worths p q d e same side js agree.1)

module _ {S W Map D : Type 0} (way : Way S W Map D) (b : BookValue S W Map D) (w : DoneValue S W Map D) where
  -- the test of what was seen decides, where the rest is met
  pub decides : (seat : ℕ) (hands : List (Option (Holding S W Map))) (jobs : List (Job S W Map)) → seat ≡ w.seat → hands ≡ b.state.hands → jobs ≡ w.jobs
      → (way.tables w.direction w.system).side ≡ (way.tables b.direction b.system).side → b.system.semiring ≡ w.system.semiring → All (AgreeOn b.system w.system) jobs
      → jobs_out seat hands ≡ Some jobs
      → (r : Bool) → IsTrue r ↔ StillTell b.state.transitions w.jobs w.goals → IsTrue r ↔ CanSettle way b w
  decides seat hands jobs at out same side semiring agree listed r test =
      let there : jobs_out seat hands ≡ jobs_out w.seat b.state.hands = ap (λ k. jobs_out k hands) at ∙ ap (jobs_out w.seat) out in
      let P : List (Job S W Map) → Type 0 = All (AgreeOn b.system w.system) in (
        λ true'. record { hand = sym there ∙ listed ∙ ap Some same; side = side; semiring = semiring; rules = subst P same agree; goals = test.0 true' },
        λ can. test.1 can.goals,
      )

  -- the hand that it can settle is listed
  pub lists_it : (seat : ℕ) (hands : List (Option (Holding S W Map))) (jobs : List (Job S W Map)) → seat ≡ w.seat → hands ≡ b.state.hands → jobs ≡ w.jobs → CanSettle way b w → jobs_out seat hands ≡ Some jobs
  lists_it seat hands jobs at out same can = ap (λ k. jobs_out k hands) at ∙ ap (jobs_out w.seat) out ∙ can.hand ∙ ap Some (sym same)

module _ {S W Map D : Type 0} (operations : S → Operations W Map) (way : Way S W Map D) where
  -- the candidates of a hand that a book can settle are the book's
  pub worths_are : HasOneCandidate way → (b : BookValue S W Map D) (w : DoneValue S W Map D) → CanSettle way b w → IsWorked way w
      → w.candidates ≡ map (way.tables b.direction b.system).candidate w.jobs
  worths_are same b w can worked =
      worked ∙ same_worths b.system w.system (way.tables b.direction b.system) (way.tables w.direction w.system) (same b.direction w.direction b.system w.system) (sym can.side)
      w.jobs (recursion_from_All (AgreeOn b.system w.system) w.jobs can.rules)

  -- the facts that a settle begins with
  pub record IsReady (b : BookValue S W Map D) (seat : ℕ) (js : List (Job S W Map)) (ws : List W) : Type 0 where
    pub out : jobs_out seat b.state.hands ≡ Some js
    pub worths : ws ≡ map (way.tables b.direction b.system).candidate js

  pub ready : HasOneCandidate way → (b old : BookValue S W Map D) → b ≡ old → (w : DoneValue S W Map D) → CanSettle way old w → IsWorked way w
      → (seat : ℕ) (js : List (Job S W Map)) (ws : List W) → seat ≡ w.seat → js ≡ w.jobs → ws ≡ w.candidates → IsReady b seat js ws
  ready same b old view w can worked seat js ws at jobs worths =
      let P : BookValue S W Map D → Type 0 = λ x. CanSettle way x w in
      let can' = subst P (sym view) can in
      record {
        out = ap (λ k. jobs_out k b.state.hands) at ∙ can'.hand ∙ ap Some (sym jobs);
        worths = worths ∙ worths_are same b w can' worked ∙ ap (map (way.tables b.direction b.system).candidate) (sym jobs);
      }

  pub planned_is : (x z : S) (cs : List (Change W)) (n : ℕ) (ts : List (Entry S W Map)) (plan : List (Planned S W Map)) → plan ≡ plan_of (operations z) cs n ts → z ≡ x → plan ≡ plan_of (operations x) cs n ts
  planned_is x z cs n ts plan is same = is ∙ ap (λ y. plan_of (operations y) cs n ts) same

  module _ (b : BookValue S W Map D) (seat : ℕ) (js : List (Job S W Map)) (ws : List W) (n : ℕ) (plan : List (Planned S W Map))
      (out : jobs_out seat b.state.hands ≡ Some js) (worths : ws ≡ map (way.tables b.direction b.system).candidate js) (count : n ≡ length b.state.nodes)
      (planned : plan ≡ plan_of (operations b.system.semiring) (changes_with js ws) n b.state.transitions) where
    made_all : put_all plan b.state ≡ apply_jobs (operations b.system.semiring) (way.tables b.direction b.system) js b.state
    made_all =
        let s = operations b.system.semiring in
        let d = way.tables b.direction b.system in
        ap (λ ls. put_all ls b.state)
        (planned ∙ ap (λ vs. plan_of s (changes_with js vs) n b.state.transitions) worths ∙ ap (λ k. plan_of s (changes_with js (map d.candidate js)) k b.state.transitions) count)
        ∙ plan_is s (changes_with js (map d.candidate js)) b.state ∙ apply_jobs_is s d js b.state

    pub settled : (new : Found S W Map) (hands : List (Option (Holding S W Map))) (journal : List Event)
        → with_hands new b.state.hands ≡ put_all plan b.state → hands ≡ slice_set b.state.hands seat None → journal ≡ b.journal ++ Settle seat ∷ []
        → Makes operations way b (Settle seat) (record b { state = with_hands new hands; journal = journal })
    settled new hands journal put hs es =
        let s = operations b.system.semiring in
        let d = way.tables b.direction b.system in
        let h = held (hand_at seat b.state.hands) js out in
        let st : CoreState S W Map = with_hands new hands in
        let same : settle s d seat h.0 b.state ≡ st =
        ap (λ ks. free s d seat (apply_jobs s d ks b.state)) h.2 ∙ ap (free s d seat) (sym (put ∙ made_all)) ∙ ap (with_hands new) (sym hs) in
        (st, ap (option_map (λ g. settle s d seat g b.state)) h.1 ∙ ap Some same, ap (λ (es : List Event). record b { state = st; journal = es }) es)

  -- how many nodes there are then
  pub settled_nodes : (b : BookValue S W Map D) (plan : List (Planned S W Map)) (new : Found S W Map) → with_hands new b.state.hands ≡ put_all plan b.state
      → length b.state.nodes + length plan ≡ length new.graph.nodes
  settled_nodes b plan new put = sym (ap (λ st. length st.nodes) put ∙ nodes_added plan b.state)

module _ {S W Map D : Type 0} (operations : S → Operations W Map) (laws : (x : S) → IsSemiring (operations x)) (way : Way S W Map D)
    (direction : IsLawful operations way) where
  -- the transitions of a book have weights that fit and nodes of its graph
  pub book_keeps : (b : BookValue S W Map D) → IsBook operations way b → AreKept (operations b.system.semiring) b.state.transitions (length b.state.nodes)
  book_keeps b is =
      let law = laws b.system.semiring in
      let P : W → Type 0 = Fits (operations b.system.semiring) in
      record { each = λ t there. let sound = is.lock.sound t there in (subst P (sym sound.are_runs.weight) (worth_fits law (value_of (operations b.system.semiring) b.system) (value_fits is.system law) _), sound.node) }

  -- the jobs of a hand that is out change places by weights that fit and nodes of the graph
  pub changes_fit : (b : BookValue S W Map D) → IsBook operations way b → (seat : ℕ) (h : Holding S W Map) → hand_at seat b.state.hands ≡ Some h
      → (js : List (Job S W Map)) → ((j : Job S W Map) → IsIn j js → IsIn j h.jobs)
      → AllByRecursion (IsFitChange (operations b.system.semiring) (length b.state.nodes)) (changes_with js (map (way.tables b.direction b.system).candidate js))
  changes_fit b is seat h at [] within = tt
  changes_fit b is seat h at (j ∷ js) within =
      let s = operations b.system.semiring in
      let law = laws b.system.semiring in
      let d = way.tables b.direction b.system in
      let value = value_fits is.system law in
      let rs = way.runs b.direction b.system b.opening in
      let dir = direction b.direction b.system b.opening is.system is.fits in
      let old = opened_by operations way b in
      let sound = job_sound law value rs dir old.transitions (opening_fits law value rs dir) b.state.nodes h.place j ((is.lock.hands seat h at).jobs j (within j (inl refl))) in (
        record { weight = change_fits law (value_of s b.system) value rs d.side b.state.nodes (change_of s d j) sound; first = sound.first; second = sound.second; part = sound.part },
        changes_fit b is seat h at js (λ k in'. within k (inr in')),
      )

  module _ (b : BookValue S W Map D) (is : IsBook operations way b) (seat : ℕ) (js : List (Job S W Map)) (out : jobs_out seat b.state.hands ≡ Some js) where
    jobs_fit : AllByRecursion (IsFitChange (operations b.system.semiring) (length b.state.nodes)) (changes_with js (map (way.tables b.direction b.system).candidate js))
    jobs_fit =
        let h = held (hand_at seat b.state.hands) js out in
        let P : List (Job S W Map) → Type 0 = λ ks. AllByRecursion (IsFitChange (operations b.system.semiring) (length b.state.nodes)) (changes_with ks (map (way.tables b.direction b.system).candidate ks)) in
        subst P h.2 (changes_fit b is seat h.0 h.1 h.0.jobs (λ j in'. in'))

    module _ (ws : List W) (worths : ws ≡ map (way.tables b.direction b.system).candidate js) where
      pub worths_fit : All (Fits (operations b.system.semiring)) ws
      worths_fit =
          let d = way.tables b.direction b.system in
          let P : List W → Type 0 = All (Fits (operations b.system.semiring)) in
          subst P (sym worths) (All-from_recursion (Fits (operations b.system.semiring)) (map d.candidate js) (worths_of (operations b.system.semiring) (length b.state.nodes) d.candidate js jobs_fit))

      pub worths_long : length ws ≡ length js
      worths_long = ap length worths ∙ length-map js (way.tables b.direction b.system).candidate

      -- so the nodes of a plan may stand next
      pub nodes_next : (n : ℕ) (plan : List (Planned S W Map)) → n ≡ length b.state.nodes → plan ≡ plan_of (operations b.system.semiring) (changes_with js ws) n b.state.transitions → AreNodesFrom (length b.state.nodes) plan
      nodes_next n plan count planned =
          let s = operations b.system.semiring in
          let m = length b.state.nodes in
          let cs = changes_with js (map (way.tables b.direction b.system).candidate js) in
          let P : List (Planned S W Map) → Type 0 = AreNodesFrom m in
          let same : plan ≡ plan_of s cs m b.state.transitions = planned ∙ ap (λ vs. plan_of s (changes_with js vs) n b.state.transitions) worths ∙ ap (λ k. plan_of s cs k b.state.transitions) count in
          subst P (sym same) (plan_nodes (laws b.system.semiring) m cs m b.state.transitions (omega arith) (book_keeps b is) jobs_fit)

  -- the worths of a hand that was just taken are weights
  pub taken_worths : (b : BookValue S W Map D) → IsBook operations way b → (seat : ℕ) (x : Place) (ts : List (Entry S W Map)) (ns : List Node) (queue : List Place) (hands : List (Option (Holding S W Map))) (journal : List Event)
      → Makes operations way b (Take seat x) (moved b ts ns queue hands journal) → seat < length b.state.hands → (js ks : List (Job S W Map)) → hands ≡ slice_set b.state.hands seat (Some (record { place = x; jobs = js })) → ks ≡ js
      → All (Fits (operations b.system.semiring)) (map (way.tables b.direction b.system).candidate ks)
  taken_worths b is seat x ts ns queue hands journal made within js ks put same =
      let h : Holding S W Map = record { place = x; jobs = js } in
      let out : hand_at seat hands ≡ Some h = ap (hand_at seat) put ∙ get_or-set_same b.state.hands seat (Some h) None within in
      let new = moved b ts ns queue hands journal in
      worths_fit new (event_keeps operations laws way direction b is (Take seat x) new made) seat ks (ap (option_map jobs_of) out ∙ ap Some (sym same)) (map (way.tables b.direction b.system).candidate ks) refl

  -- the inputs of the jobs of a hand that is out fit
  pub out_fits : (b : BookValue S W Map D) → IsBook operations way b → (seat : ℕ) → IfSome (jobs_out seat b.state.hands) (All (InputsFit (operations b.system.semiring)))
  out_fits b is seat = elim (hand_at seat b.state.hands) as (λ o. hand_at seat b.state.hands ≡ o → IfSome (option_map jobs_of o) (All (InputsFit (operations b.system.semiring)))) [
    | None ↦ λ e. tt
    | Some h ↦ λ e. (book_works operations laws way direction b is seat h e).inputs
  ] refl
