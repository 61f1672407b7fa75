-- What the fields of a book are after an event.
use Rattle.std.proofs.Common.{◌≡◌, inl, inr, get_or, ℕ, suc, ◌+◌, ◌<◌, ◌≤◌, true, false, List, [], ◌∷◌, ◌++◌, length, refl, sym, ap, ◌∙◌, subst, arith}
use Rattle.std.specs.Prelude.{Option, None, Some, option_map, slice_set, slice_get, is_none, is_some, nat_lt, ◌&&◌, cond}
use Rattle.std.proofs.lemmas.Bool.{cases_lt, and_from, lt-ltb, cond-true}
use Rattle.std.proofs.lemmas.Option.{same_Some}
use Rattle.std.proofs.lemmas.List.{get_or_read, get_or_past}
use Rattle.semiring_laws.specs.Semiring.{Operations}
use Rattle.weighted_automata.specs.declared.place.Place.{Place}
use Rattle.weighted_automata.specs.declared.transitions.Entry.{Entry}
use Rattle.weighted_automata.specs.Places.{same_place}
use Rattle.weighted_automata.specs.Entries.{entry_at, index_at}
use Rattle.weighted_automata.proofs.CallerLemmas.{same_place_itself}
use Rattle.saturation_laws.specs.declared.job.Job.{Job}
use Rattle.saturation_laws.specs.declared.holding.Holding.{Holding}
use Rattle.saturation_laws.specs.declared.event.Event.{Event}
use Rattle.saturation_laws.specs.declared.event.Event.TheVariants.{Take, GiveBack}
use Rattle.saturation_laws.specs.Queues.{queued}
use Rattle.saturation_laws.specs.States.{CoreState, hand_at, jobs_at, take, can_take, is_front, without_front, give_back}
use Rattle.saturation_laws.specs.Books.{BookValue, Makes}
use Rattle.saturation_laws.specs.Ways.{Way}

module _ {S W Map : Type 0} where
  place_is : (o : Option (Holding S W Map)) (x : Place) → option_map (λ h. h.place) o ≡ Some x → (h : Holding S W Map) × (o ≡ Some h) × (h.place ≡ x)
  place_is None x e = cc
  place_is (Some h) x e = (h, refl, same_Some h.place x e)

  none_is : (o : Option (Holding S W Map)) → o ≡ None → is_none o ≡ true
  none_is o e = ap is_none e

  -- the index that a search gives is that of the transition at the place
  pub indexed : (x : Place) (ts : List (Entry S W Map)) (k : ℕ) → index_at x ts ≡ Some k → (t : Entry S W Map) × (slice_get ts k ≡ Some t) × (entry_at x ts ≡ Some t)
  indexed x [] k e = cc
  indexed x (u ∷ ts) k e =
      let P : Option ℕ → Option (Entry S W Map) → Type 0 = λ i o. i ≡ Some k → (t : Entry S W Map) × (slice_get (u ∷ ts) k ≡ Some t) × (o ≡ Some t) in
      elim (same_place u.place x) as (λ b. P (cond b (Some 0) (option_map (λ i. i + 1) (index_at x ts))) (cond b (Some u) (entry_at x ts))) [
        | true ↦ λ h. let zero_is : 0 ≡ k = same_Some 0 k h in (u, ap (slice_get (u ∷ ts)) (sym zero_is), refl)
        | false ↦ λ h. elim (index_at x ts) as (λ i. index_at x ts ≡ i → option_map (λ j. j + 1) i ≡ Some k → (t : Entry S W Map) × (slice_get (u ∷ ts) k ≡ Some t) × (entry_at x ts ≡ Some t)) [
          | None ↦ λ was f. cc
          | Some j ↦ λ was f.
              let there = indexed x ts j was in
              let next : suc j ≡ k = let g : j + 1 ≡ k = same_Some (j + 1) k f in omega arith in
              (there.0, ap (slice_get (u ∷ ts)) (sym next) ∙ there.1, there.2)
        ] refl h
      ] e

module _ {S W Map : Type 0} where
  pub unindexed : (x : Place) (ts : List (Entry S W Map)) → index_at x ts ≡ None → entry_at x ts ≡ None
  unindexed x [] e = refl
  unindexed x (u ∷ ts) e =
      elim (same_place u.place x) as (λ b. cond b (Some 0) (option_map (λ i. i + 1) (index_at x ts)) ≡ None → cond b (Some u) (entry_at x ts) ≡ None) [
        | true ↦ λ h. cc
        | false ↦ λ h. elim (index_at x ts) as (λ i. index_at x ts ≡ i → option_map (λ j. j + 1) i ≡ None → entry_at x ts ≡ None) [
          | None ↦ λ was f. unindexed x ts was
          | Some j ↦ λ was f. cc
        ] refl h
      ] e

-- a book with this queue, these hands and this journal
abbrev pub after : {S W Map D : Type 0} → BookValue S W Map D → List Place → List (Option (Holding S W Map)) → List Event → BookValue S W Map D
after b queue hands journal = record b { state = record { transitions = b.state.transitions; nodes = b.state.nodes; queue = queue; hands = hands }; journal = journal }

module _ {S W Map D : Type 0} (operations : S → Operations W Map) (way : Way S W Map D) (b : BookValue S W Map D) (seat : ℕ) (x : Place)
    (queue : List Place) (hands : List (Option (Holding S W Map))) (journal : List Event) where
  pub given : option_map (λ h. h.place) (hand_at seat b.state.hands) ≡ Some x → queue ≡ queued x b.state.queue → hands ≡ slice_set b.state.hands seat None
      → journal ≡ b.journal ++ GiveBack seat ∷ [] → Makes operations way b (GiveBack seat) (after b queue hands journal)
  given out q hs es =
      let s = operations b.system.semiring in
      let d = way.tables b.direction b.system in
      let h = place_is (hand_at seat b.state.hands) x out in
      let st : CoreState S W Map = record { transitions = b.state.transitions; nodes = b.state.nodes; queue = queue; hands = hands } in
      let shape : List Place → List (Option (Holding S W Map)) → CoreState S W Map = λ r i. record { transitions = b.state.transitions; nodes = b.state.nodes; queue = r; hands = i } in
      let same : give_back s d seat h.0 b.state ≡ st =
      ap (λ r. shape r (slice_set b.state.hands seat None)) (ap (λ y. queued y b.state.queue) h.2 ∙ sym q) ∙ ap (shape queue) (sym hs) in
      (st, ap (option_map (λ g. give_back s d seat g b.state)) h.1 ∙ ap Some same, ap (λ (es : List Event). record b { state = st; journal = es }) es)

  pub taken : seat < length b.state.hands → hand_at seat b.state.hands ≡ None → b.state.queue ≡ x ∷ queue
      → (js : List (Job S W Map)) → js ≡ jobs_at (operations b.system.semiring) (way.tables b.direction b.system) (entry_at x b.state.transitions) b.state.transitions
      → hands ≡ slice_set b.state.hands seat (Some (record { place = x; jobs = js }))
      → journal ≡ b.journal ++ Take seat x ∷ [] → Makes operations way b (Take seat x) (after b queue hands journal)
  taken within none front js listed hs es =
      let s = operations b.system.semiring in
      let d = way.tables b.direction b.system in
      let st : CoreState S W Map = record { transitions = b.state.transitions; nodes = b.state.nodes; queue = queue; hands = hands } in
      let shape : List Place → List (Option (Holding S W Map)) → CoreState S W Map = λ r i. record { transitions = b.state.transitions; nodes = b.state.nodes; queue = r; hands = i } in
      let hand : List (Job S W Map) → List (Option (Holding S W Map)) = λ ks. slice_set b.state.hands seat (Some (record { place = x; jobs = ks })) in
      let F : List Place → Type 0 = λ r. is_front s d x r ≡ true in
      let first : F b.state.queue = subst F (sym front) (same_place_itself x) in
      let can : can_take s d seat x b.state ≡ true =
      and_from (nat_lt seat (length b.state.hands) && is_none (hand_at seat b.state.hands)) (is_front s d x b.state.queue)
      (and_from (nat_lt seat (length b.state.hands)) (is_none (hand_at seat b.state.hands)) (lt-ltb seat (length b.state.hands) within) (none_is (hand_at seat b.state.hands) none)) first in
      let same : take s d seat x b.state ≡ st =
      ap (λ r. shape (without_front s d r) (hand (jobs_at s d (entry_at x b.state.transitions) b.state.transitions))) front
      ∙ ap (shape queue) (ap hand (sym listed) ∙ sym hs) in
      (st, cond-true (can_take s d seat x b.state) _ _ can ∙ ap Some same, ap (λ (es : List Event). record b { state = st; journal = es }) es)

module _ {S W Map : Type 0} where
  -- no hand so far, and one place more
  pub none_more : (hs : List (Option (Holding S W Map))) (i : ℕ) (h : Option (Holding S W Map)) → ((k : ℕ) → k < i → hand_at k hs ≡ None) → h ≡ get_or hs i h → i < length hs → h ≡ None
      → (k : ℕ) → k < i + 1 → hand_at k hs ≡ None
  none_more hs i h before read within none k below = elim (cases_lt k i) [
    | inl less ↦ before k less
    | inr more ↦
        let e : i ≡ k = omega arith in
        ap (λ j. hand_at j hs) (sym e) ∙ sym (get_or_read hs i h within read None) ∙ none
  ]

  pub none_at_all : (hs : List (Option (Holding S W Map))) (i : ℕ) → ((k : ℕ) → k < i → hand_at k hs ≡ None) → length hs ≤ i → (k : ℕ) → hand_at k hs ≡ None
  none_at_all hs i before past k = elim (cases_lt k i) [
    | inl less ↦ before k less
    | inr more ↦ get_or_past hs k None (omega arith)
  ]

  pub some_there : (hs : List (Option (Holding S W Map))) (i : ℕ) (h : Option (Holding S W Map)) → h ≡ get_or hs i h → i < length hs → is_some h ≡ true → ((k : ℕ) → hand_at k hs ≡ None) → ⊥
  some_there hs i h read within some none =
      let e : h ≡ None = get_or_read hs i h within read None ∙ none i in
      let f : is_some h ≡ false = ap is_some e in
      let g : true ≡ false = sym some ∙ f in cc

  pub not_some : (h : Option (Holding S W Map)) → is_some h ≡ false → h ≡ None
  not_some None e = refl
  not_some (Some x) e = cc
