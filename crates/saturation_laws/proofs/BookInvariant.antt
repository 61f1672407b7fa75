-- What holds of every book.
use Rattle.std.specs.Prelude.{All}
use Rattle.std.proofs.Common.{◌≡◌, inl, inr, ℕ, ◌+◌, ◌*◌, ◌<◌, set, List, [], ◌∷◌, ◌++◌, length, sym, ap, ◌∙◌, subst, arith}
use Rattle.std.proofs.lemmas.List.{length-map}
use Rattle.std.specs.Prelude.{Option, None, Some, IsTrue, option_and_then}
use Rattle.semiring_laws.specs.Semiring.{Operations, IsSemiring, Fits}
use Rattle.weighted_automata.specs.declared.place.Place.{Place}
use Rattle.pushdown_rules.specs.Pushdown.{IsSystem}
use Rattle.pushdown_rules.specs.Values.{value_of}
use Rattle.saturation_laws.specs.declared.event.Event.{Event}
use Rattle.saturation_laws.specs.Jobs.{Tables, place_of}
use Rattle.saturation_laws.specs.States.{CoreState, hand_at, step, replay}
use Rattle.saturation_laws.specs.Directions.{IsConsequence}
use Rattle.saturation_laws.specs.Invariants.{IsApplied}
use Rattle.wpds_base.specs.Lists.{IsIn}
use Rattle.saturation_laws.specs.declared.job.Job.{Job}
use Rattle.saturation_laws.specs.Books.{BookValue, IsClosed, opened_by, replayed, Makes, IsBook, CanWork, TakesAreBounded, NodesAreBounded}
use Rattle.pushdown_rules.proofs.CallerLemmas.{value_fits}
use Rattle.saturation_laws.proofs.HandJobs.{transitions_fit, hand_works}
use Rattle.saturation_laws.proofs.BookFields.{after}
use Rattle.std.proofs.lemmas.List.{get_or-set_same}
use Rattle.saturation_laws.specs.declared.holding.Holding.{Holding}
use Rattle.saturation_laws.specs.declared.event.Event.TheVariants.{Take}
use Rattle.saturation_laws.proofs.EventsKeepInvariant.{replay_keeps}
use Rattle.saturation_laws.proofs.EventsKeepBound.{replay_counts, takes_bounded, nodes_bounded}
use Rattle.saturation_laws.proofs.OpeningLemmas.{opening_queues}
use Rattle.saturation_laws.proofs.OpeningState.{opening_locked, opening_within, opening_fits}
use Rattle.saturation_laws.specs.Ways.{Way, IsLawful}

module _ {S W Map : Type 0} (s : Operations W Map) (d : Tables S W Map) where
  replay_push : (es : List Event) (e : Event) (old st new : CoreState S W Map) → replay s d old es ≡ Some st → step s d st e ≡ Some new → replay s d old (es ++ e ∷ []) ≡ Some new
  replay_push [] e old st new at one =
      let same : old ≡ st = cc in
      ap (λ o. option_and_then (λ m. replay s d m []) o) (ap (λ m. step s d m e) same ∙ one)
  replay_push (f ∷ es) e old st new at one =
      elim (step s d old f) as (λ o. option_and_then (λ m. replay s d m es) o ≡ Some st → option_and_then (λ m. replay s d m (es ++ e ∷ [])) o ≡ Some new) [
        | None ↦ λ h. cc
        | Some mid ↦ λ h. replay_push es e mid st new h one
      ] at

mul_suc : (a b : ℕ) → a * (b + 1) ≡ a * b + a
mul_suc a b = omega arith

module _ {S W Map D : Type 0} (operations : S → Operations W Map) (laws : (x : S) → IsSemiring (operations x)) (way : Way S W Map D)
    (direction : IsLawful operations way) where
  -- a book that is the replay of its journal meets the lock invariant and the bound
  pub book_from : (b : BookValue S W Map D) → IsSystem operations b.system → IsTrue (way.fits_opening b.direction b.system b.opening) → replayed operations way b ≡ Some b.state
      → IsBook operations way b
  book_from b system fits replays =
      let s = operations b.system.semiring in
      let law = laws b.system.semiring in
      let value = value_fits system law in
      let rs = way.runs b.direction b.system b.opening in
      let dir = direction b.direction b.system b.opening system fits in
      let old = opened_by operations way b in
      let lock = opening_locked law value rs dir in
      let fit = opening_fits law value rs dir in
      record {
        system = system;
        fits = fits;
        replays = replays;
        lock = replay_keeps law value rs dir old.transitions fit b.journal old lock b.state replays;
        bound = (replay_counts law value rs dir old.transitions fit b.journal old lock (opening_within law value rs dir) b.state replays).0;
      }

  -- a legal event makes a book of a book
  pub event_keeps : (b : BookValue S W Map D) → IsBook operations way b → (e : Event) (new : BookValue S W Map D) → Makes operations way b e new
      → IsBook operations way new
  event_keeps b is e new made =
      let after : BookValue S W Map D = record b { state = made.0; journal = b.journal ++ e ∷ [] } in
      subst (IsBook operations way) (sym made.2)
      (book_from after is.system is.fits
      (replay_push (operations b.system.semiring) (way.tables b.direction b.system) b.journal e (opened_by operations way b) b.state made.0 is.replays made.1))

  -- in a closed book every consequence is applied
  pub closed_applies : (b : BookValue S W Map D) → IsBook operations way b → IsClosed b → (j : Job S W Map)
      → IsConsequence (way.tables b.direction b.system) b.state.transitions j → IsApplied (operations b.system.semiring) (way.tables b.direction b.system) b.state.transitions j
  closed_applies b is closed j there = elim (is.lock.closed j there) [
    | inl applied ↦ applied
    | inr due ↦ elim due [
      | inl waiting ↦ let P : List Place → Type 0 = IsIn waiting.0.place in absurd (subst P closed.0 waiting.2)
      | inr held ↦ let f : Some held.1 ≡ None = sym held.2 ∙ closed.1 held.0 in cc
    ]
  ]

  -- the weights of a book fit
  pub book_fits : (b : BookValue S W Map D) → IsBook operations way b → All (λ t. Fits (operations b.system.semiring) t.weight) b.state.transitions
  book_fits b is =
      let s = operations b.system.semiring in
      transitions_fit (laws b.system.semiring) (value_of s b.system) (value_fits is.system (laws b.system.semiring)) (way.runs b.direction b.system b.opening) (way.tables b.direction b.system)
      (opened_by operations way b).transitions b.state is.lock

  -- the takes of a book's journal are bounded, and so are its nodes
  pub book_takes : (b : BookValue S W Map D) → IsBook operations way b → TakesAreBounded operations way b
  book_takes b is =
      let s = operations b.system.semiring in
      let old = opened_by operations way b in
      let xs = way.places b.direction b.system b.opening in
      let value = value_fits is.system (laws b.system.semiring) in
      let dir = direction b.direction b.system b.opening is.system is.fits in
      let fit = opening_fits (laws b.system.semiring) value (way.runs b.direction b.system b.opening) dir in
      let bounded = takes_bounded (laws b.system.semiring) value (way.runs b.direction b.system b.opening) dir old.transitions fit b.journal old b.state is.bound in
      let all : length old.queue ≡ length old.transitions = ap length (sym (opening_queues s (way.tables b.direction b.system).side b.system b.opening.edges)) ∙ length-map old.transitions place_of in
      let more : length xs * (s.top_rank + 1) ≡ length xs * s.top_rank + length xs = mul_suc (length xs) s.top_rank in
      omega (arith, bounded, all, more)

  pub book_nodes : (b : BookValue S W Map D) → IsBook operations way b → NodesAreBounded operations way b
  book_nodes b is =
      let value = value_fits is.system (laws b.system.semiring) in
      let dir = direction b.direction b.system b.opening is.system is.fits in
      let old = opened_by operations way b in
      let fit = opening_fits (laws b.system.semiring) value (way.runs b.direction b.system b.opening) dir in
      nodes_bounded (laws b.system.semiring) value (way.runs b.direction b.system b.opening) dir old.transitions fit b.journal old b.state is.bound

  -- the jobs of a hand that is out can be worked out
  pub book_works : (b : BookValue S W Map D) → IsBook operations way b → (seat : ℕ) (h : Holding S W Map) → hand_at seat b.state.hands ≡ Some h → CanWork operations way b h.jobs
  book_works b is seat h out =
      let works = hand_works (laws b.system.semiring) (value_of (operations b.system.semiring) b.system) (value_fits is.system (laws b.system.semiring)) (way.runs b.direction b.system b.opening) (way.tables b.direction b.system)
      (opened_by operations way b).transitions b.state is.lock seat h out in
      record { rows = works.0; inputs = works.1 }

  -- and so can those of a hand that was just taken
  pub taken_works : (b : BookValue S W Map D) → IsBook operations way b → (seat : ℕ) (x : Place) (queue : List Place) (hands : List (Option (Holding S W Map))) (journal : List Event)
      → Makes operations way b (Take seat x) (after b queue hands journal) → seat < length b.state.hands → (js ks : List (Job S W Map)) → hands ≡ set b.state.hands seat (Some (record { place = x; jobs = js })) → ks ≡ js
      → CanWork operations way b ks
  taken_works b is seat x queue hands journal made within js ks put same =
      let h : Holding S W Map = record { place = x; jobs = js } in
      let out : hand_at seat hands ≡ Some h = ap (hand_at seat) put ∙ get_or-set_same b.state.hands seat (Some h) None within in
      let works = book_works (after b queue hands journal) (event_keeps b is (Take seat x) (after b queue hands journal) made) seat h out in
      let P : List (Job S W Map) → Type 0 = CanWork operations way b in
      subst P (sym same) (record { rows = works.rows; inputs = works.inputs })
