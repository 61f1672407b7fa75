-- What a turn of one worker makes of a book.
use Rattle.std.proofs.Common.{◌≡◌, inl, inr, ℕ, ◌+◌, ◌-◌, ◌*◌, ◌<◌, ◌≤◌, List, [], ◌∷◌, ◌++◌, length, get_or, set, refl, sym, ap, subst, ◌∙◌, arith}
use Rattle.std.specs.Prelude.{◌≢◌, ◌↔◌, Bool, true, false, IsTrue, Option, Some, None, option_map}
use Rattle.std.proofs.lemmas.Bool.{cond_both, cases_eq, cases_lt}
use Rattle.std.proofs.lemmas.Option.{same_Some}
use Rattle.std.proofs.lemmas.List.{get_or-set_same, get_or-set_other, get_or_past, length-set, length_push}
use Rattle.semiring_laws.specs.Semiring.{Operations, IsSemiring}
use Rattle.weighted_automata.specs.declared.place.Place.{Place}
use Rattle.pushdown_rules.specs.Pushdown.{Pushdown}
use Rattle.saturation_laws.specs.declared.event.Event.TheVariants.{Take, Settle}
use Rattle.saturation_laws.specs.declared.job.Job.{Job}
use Rattle.saturation_laws.specs.declared.holding.Holding.{Holding}
use Rattle.saturation_laws.specs.Jobs.{Tables}
use Rattle.saturation_laws.specs.States.{CoreState, Change, hand_at, weight_at, lower_state, apply, apply_all, change_of, apply_jobs, settle, step, replay}
use Rattle.saturation_laws.specs.Openings.{pops, with_edge, with_edges, bare, opening_state}
use Rattle.saturation_laws.specs.Bound.{takes, gives}
use Rattle.saturation_laws.specs.Books.{BookValue, NoHand, IsClosed, Makes, IsBook, opened_by}
use Rattle.saturation_laws.proofs.CallerLemmas.{none_out, event_keeps, book_takes}
use Rattle.worker_pool.specs.Alone.{HasBase, IsAlone, turns_of}
use Rattle.saturation_core.specs.Calls.{TakesAndSettles}
use Rattle.saturation_core.proofs.CallerLemmas.{hand_for, took}
use Rattle.saturation_laws.specs.Ways.{Way, IsLawful}

pub set_none : {X : Type 0} (hs : List (Option X)) (i : ℕ) → get_or (set hs i None) i None ≡ None
set_none hs i = elim (cases_lt i (length hs)) [
  | inl within ↦ get_or-set_same hs i None None within
  | inr past ↦ get_or_past (set hs i None) i None (omega (arith, length-set hs i None))
]

module _ {S W Map : Type 0} (s : Operations W Map) where
  -- changes leave the hands as they are
  change_hands : (c : Change W) (st : CoreState S W Map) → (apply s c st).hands ≡ st.hands
  change_hands c st =
      let new = s.combine (weight_at s c.goal st.transitions) c.weight in
      let P : CoreState S W Map → Type 0 = λ m. m.hands ≡ st.hands in
      cond_both (s.same new (weight_at s c.goal st.transitions)) st (lower_state s c new st) P (λ _. refl) (λ _. refl)

  changes_hands : (cs : List (Change W)) (st : CoreState S W Map) → (apply_all s cs st).hands ≡ st.hands
  changes_hands [] st = refl
  changes_hands (c ∷ cs) st = changes_hands cs (apply s c st) ∙ change_hands c st

  edges_hands : (xs : List Place) (st : CoreState S W Map) → (with_edges s xs st).hands ≡ st.hands
  edges_hands [] st = refl
  edges_hands (x ∷ xs) st = edges_hands xs (with_edge s x st)

  -- no hand is out in the beginning
  pub opening_free : (d : Tables S W Map) (p : Pushdown S W Map) (edges : List Place) (seat : ℕ) → hand_at seat (opening_state s d.side p edges).hands ≡ None
  opening_free d p edges seat =
      ap (hand_at seat) (changes_hands (pops d.side p.rules) (with_edges s edges (bare s)) ∙ edges_hands edges (bare s)) ∙ none_out 64 seat

module _ {S W Map : Type 0} (s : Operations W Map) (d : Tables S W Map) where
  jobs_hands : (js : List (Job S W Map)) (st : CoreState S W Map) → (apply_jobs s d js st).hands ≡ st.hands
  jobs_hands [] st = refl
  jobs_hands (j ∷ js) st = jobs_hands js (apply s (change_of s d j) st) ∙ change_hands s (change_of s d j) st

  pub settled_hands : (seat : ℕ) (st new : CoreState S W Map) (o : Option (Holding S W Map)) → option_map (λ h. settle s d seat h st) o ≡ Some new → new.hands ≡ set st.hands seat None
  settled_hands seat st new None e = cc
  settled_hands seat st new (Some h) e =
      ap (λ (m : CoreState S W Map). m.hands) (sym (same_Some (settle s d seat h st) new e)) ∙ ap (λ hs. set hs seat None) (jobs_hands h.jobs st)

  -- where no hand was out, none is after a turn
  turn_frees : (x : Place) (st mid new : CoreState S W Map) → step s d st (Take 0 x) ≡ Some mid → step s d mid (Settle 0) ≡ Some new
      → ((seat : ℕ) → hand_at seat st.hands ≡ None) → (seat : ℕ) → hand_at seat new.hands ≡ None
  turn_frees x st mid new taken settled free seat =
      let last : hand_at seat new.hands ≡ hand_at seat (set mid.hands 0 None) = ap (hand_at seat) (settled_hands 0 mid new (hand_at 0 mid.hands) settled) in
      elim (cases_eq seat 0) [
        | inl same ↦ last ∙ ap (λ k. hand_at k (set mid.hands 0 None)) same ∙ set_none mid.hands 0
        | inr other ↦ last ∙ get_or-set_other mid.hands 0 seat None None other
            ∙ ap (λ (m : CoreState S W Map). hand_at seat m.hands) (sym (took s d 0 x st mid taken).1)
            ∙ get_or-set_other st.hands 0 seat (Some (hand_for s d x st)) None other ∙ free seat
      ]

turns_push : (xs : List Place) (x : Place) → (turns_of xs ++ Take 0 x ∷ []) ++ Settle 0 ∷ [] ≡ turns_of (xs ++ x ∷ [])
turns_push [] x = refl
turns_push (y ∷ xs) x = ap (λ es. Take 0 y ∷ Settle 0 ∷ es) (turns_push xs x)

turns_taken : (xs : List Place) → takes (turns_of xs) ≡ length xs
turns_taken [] = refl
turns_taken (x ∷ xs) = omega (arith, turns_taken xs)

none_given : (xs : List Place) → gives (turns_of xs) ≡ 0
none_given [] = refl
none_given (x ∷ xs) = none_given xs

falls : (n m t u : ℕ) → m ≡ n → u ≡ t + 1 → u ≤ m → m + 1 - u < n + 1 - t
falls n m t u same more within = omega arith

module _ {S W Map D : Type 0} (operations : S → Operations W Map) (way : Way S W Map D) where
  -- where no hand was out, none is after a turn
  pub turned_free : (old new : BookValue S W Map D) → TakesAndSettles operations way 0 old new → NoHand old → NoHand new
  turned_free old new turned free =
      let P : BookValue S W Map D → Type 0 = λ b. Makes operations way b (Settle 0) new in
      let taken = turned.2 in
      let settled = subst P taken.2 turned.3 in
      subst NoHand (sym settled.2) (turn_frees (operations old.system.semiring) (way.tables old.direction old.system) turned.0 old.state taken.0 settled.0 taken.1 settled.1 free)

  -- a book that is not closed has something in its queue
  pub still_waits : (b : BookValue S W Map D) (r : Bool) → IsTrue r ↔ IsClosed b → r ≡ false → NoHand b → b.state.queue ≢ []
  still_waits b r test still free none = let h : r ≡ true = test.1 (none, free) in let e : true ≡ false = sym h ∙ still in cc

module _ {S W Map D : Type 0} (operations : S → Operations W Map) (way : Way S W Map D) where
  -- What holds between the turns that begin with a book.
  pub record IsUnderWay (entry b : BookValue S W Map D) : Type 0 where
    pub base : HasBase entry b
    pub alone : IsAlone b.journal
    pub free : NoHand b
    pub book : IsBook operations way b

  -- at most how often a transition is taken from the opening on
  abbrev most : BookValue S W Map D → ℕ
  most b = length (opened_by operations way b).transitions + length (way.places b.direction b.system b.opening) * ((operations b.system.semiring).top_rank + 1)

  -- and how many turns are left
  abbrev pub turns_left : BookValue S W Map D → ℕ
  turns_left b = most b + 1 - takes b.journal

  pub under_way : (b : BookValue S W Map D) → IsBook operations way b → b.journal ≡ [] → IsUnderWay b b
  under_way b is none =
      let s = operations b.system.semiring in
      let d = way.tables b.direction b.system in
      let st : opened_by operations way b ≡ b.state =
      same_Some (opened_by operations way b) b.state (ap (replay s d (opened_by operations way b)) (sym none) ∙ is.replays) in
      record {
        base = record { system = refl; direction = refl; opening = refl };
        alone = ([], none);
        free = λ seat. ap (λ (m : CoreState S W Map). hand_at seat m.hands) (sym st) ∙ opening_free s d b.system b.opening.edges seat;
        book = is;
      }

  module _ (laws : (x : S) → IsSemiring (operations x))
      (direction : IsLawful operations way)
      (entry old new : BookValue S W Map D) (under : IsUnderWay entry old) (turned : TakesAndSettles operations way 0 old new) where
    abbrev x : Place
    x = turned.0

    abbrev mid : BookValue S W Map D
    mid = turned.1

    new_is : new ≡ record old { state = turned.3.0; journal = (old.journal ++ Take 0 x ∷ []) ++ Settle 0 ∷ [] }
    new_is = turned.3.2 ∙ ap (λ (b : BookValue S W Map D). record b { state = turned.3.0; journal = b.journal ++ Settle 0 ∷ [] }) turned.2.2

    journal_is : new.journal ≡ turns_of (under.alone.0 ++ x ∷ [])
    journal_is =
        ap (λ (b : BookValue S W Map D). b.journal) new_is ∙ ap (λ es. (es ++ Take 0 x ∷ []) ++ Settle 0 ∷ []) under.alone.1 ∙ turns_push under.alone.0 x

    book_after : IsBook operations way new
    book_after =
        event_keeps operations laws way direction mid
        (event_keeps operations laws way direction old under.book (Take 0 x) mid turned.2) (Settle 0) new turned.3

    -- a turn leads on
    pub turn_keeps : IsUnderWay entry new
    turn_keeps = record {
      base = record {
        system = ap (λ (b : BookValue S W Map D). b.system) new_is ∙ under.base.system;
        direction = ap (λ (b : BookValue S W Map D). b.direction) new_is ∙ under.base.direction;
        opening = ap (λ (b : BookValue S W Map D). b.opening) new_is ∙ under.base.opening;
      };
      alone = (under.alone.0 ++ x ∷ [], journal_is);
      free = turned_free operations way old new turned under.free;
      book = book_after;
    }

    -- and fewer are left
    pub turn_falls : turns_left new < turns_left old
    turn_falls =
        let bounded = book_takes operations laws way direction new book_after in
        let none : gives new.journal ≡ 0 = ap gives journal_is ∙ none_given (under.alone.0 ++ x ∷ []) in
        let many : takes new.journal ≡ length (under.alone.0 ++ x ∷ []) = ap takes journal_is ∙ turns_taken (under.alone.0 ++ x ∷ []) in
        let few : takes old.journal ≡ length under.alone.0 = ap takes under.alone.1 ∙ turns_taken under.alone.0 in
        let one : length (under.alone.0 ++ x ∷ []) ≡ length under.alone.0 + 1 = length_push under.alone.0 x in
        let within : takes new.journal ≤ most new = omega (arith, bounded, none) in
        falls (most old) (most new) (takes old.journal) (takes new.journal) (ap most new_is) (omega (arith, many, few, one)) within
