-- What a worker may do at a book.
use Rattle.std.proofs.Common.{◌≡◌, ℕ, List, refl, sym, ap, subst}
use Rattle.std.specs.Prelude.{Bool, true, false, MatchBool, Option, Some, None, option_map, IsSome, Result, Ok, IfOk}
use Rattle.semiring_laws.specs.Semiring.{Operations}
use Rattle.weighted_automata.specs.declared.place.Place.{Place}
use Rattle.pushdown_rules.specs.Pushdown.{Pushdown}
use Rattle.saturation_laws.specs.declared.event.Event.TheVariants.{Take, Settle, GiveBack}
use Rattle.saturation_laws.specs.declared.job.Job.{Job}
use Rattle.saturation_core.specs.declared.hand.Hand.{Hand}
use Rattle.saturation_laws.specs.declared.holding.Holding.{Holding}
use Rattle.saturation_core.specs.declared.hand.Taken.{Taken}
use Rattle.saturation_core.specs.declared.hand.Taken.TheVariants.{Hand as TakenHand}
use Rattle.saturation_laws.specs.States.{seat_of, hand_at}
use Rattle.saturation_laws.specs.Books.{BookValue, Makes, opened_by, replayed}
use Rattle.saturation_core.specs.Calls.{AnswersTake, HandWorks}
use Rattle.saturation_core.specs.Settled.{jobs_of}
use Rattle.seat_lock.specs.Queue.{of_pass}
use Rattle.worker_pool.specs.Events.{is_ended}
use Rattle.saturation_core.specs.HandsOut.{HasOut}
use Rattle.worker_pool.specs.Steps.{WorkFits, IsOverBook}
use Rattle.worker_pool.proofs.TurnLemmas.{opening_free}
use Rattle.worker_pool.proofs.ReplayLemmas.{ended_free}
use Rattle.saturation_laws.specs.Ways.{Way}

module _ {S W Map D : Type 0} (operations : S → Operations W Map) (way : Way S W Map D) where
  -- a seat that has ended each turn has no hand at the book
  pub free_at : (b : BookValue S W Map D) → replayed operations way b ≡ Some b.state → (seat : ℕ) → is_ended (of_pass seat_of seat b.journal) ≡ true → hand_at seat b.state.hands ≡ None
  free_at b replays seat ended =
      let s = operations b.system.semiring in
      let d = way.tables b.direction b.system in
      ended_free s d seat b.journal (opened_by operations way b) b.state (opening_free s d b.system b.opening.edges seat) replays ended

  -- what a seat learns of the hand that it is given
  pub given_hand : {X : Type 0} (old new : BookValue S W Map D) (seat : ℕ) (r : Result (Taken S W Map) X) (h : Hand S W Map) (p : Pushdown S W Map) (d : D) → r ≡ Ok (TakenHand h)
      → (AnswersTake operations way old seat (TakenHand h) new → HasOut operations way new seat h.jobs h.goals)
      → IfOk r (λ t. AnswersTake operations way old seat t new) → IfOk r (HandWorks operations way old) → p ≡ old.system → d ≡ old.direction
      → ((x : Place) × Makes operations way old (Take seat x) new)
      × (h.seat ≡ seat) × HasOut operations way new seat h.jobs h.goals
      × WorkFits operations way p d h × IsOverBook old p d
  given_hand old new seat r h p d is out taken works system direction =
      let answered = subst (λ o. IfOk o (λ t. AnswersTake operations way old seat t new)) is taken in
      let can = subst (λ o. IfOk o (HandWorks operations way old)) is works in
      let at : WorkFits operations way old.system old.direction h = record { rows = can.0.rows; inputs = can.0.inputs; sums = can.1 } in (
        (answered.0, answered.1),
        ap (λ (k : Hand S W Map). k.seat) answered.2,
        out answered,
        subst (λ e. WorkFits operations way p e h) (sym direction) (subst (λ q. WorkFits operations way q old.direction h) (sym system) at),
        (system, direction),
      )

-- a seat whose hand lists jobs has one
pub has_hand : {S W Map : Type 0} (o : Option (Holding S W Map)) (js : List (Job S W Map)) → option_map jobs_of o ≡ Some js → IsSome o
has_hand None js h = cc
has_hand (Some h) js e = refl

module _ {S W Map D : Type 0} (operations : S → Operations W Map) (way : Way S W Map D) where
  -- how a hand ends
  pub ends_settled : (old new : BookValue S W Map D) (seat : ℕ) (b : Bool) (last : BookValue S W Map D) → b ≡ true → last ≡ new → Makes operations way old (Settle seat) new
      → MatchBool b (Makes operations way old (Settle seat) last) (Makes operations way old (GiveBack seat) last)
  ends_settled old new seat b last is same made =
      subst (λ c. MatchBool c (Makes operations way old (Settle seat) last) (Makes operations way old (GiveBack seat) last)) (sym is)
      (subst (Makes operations way old (Settle seat)) (sym same) made)

  pub ends_given : (old mid new : BookValue S W Map D) (seat k : ℕ) (b : Bool) (last : BookValue S W Map D) → b ≡ false → last ≡ new → mid ≡ old → k ≡ seat → Makes operations way mid (GiveBack k) new
      → MatchBool b (Makes operations way old (Settle seat) last) (Makes operations way old (GiveBack seat) last)
  ends_given old mid new seat k b last is same kept at made =
      subst (λ c. MatchBool c (Makes operations way old (Settle seat) last) (Makes operations way old (GiveBack seat) last)) (sym is)
      (subst (Makes operations way old (GiveBack seat)) (sym same)
      (subst (λ (m : BookValue S W Map D). Makes operations way m (GiveBack seat) new) kept
      (subst (λ n. Makes operations way mid (GiveBack n) new) at made)))
