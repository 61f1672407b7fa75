-- What a seat's take and settle leave of hands that are out.
use Rattle.std.proofs.Common.{◌≡◌, ℕ, List, sym, ap, ◌∙◌, subst}
use Rattle.std.specs.Prelude.{◌≢◌, Err, Ok, OnOk, Option, Result}
use Rattle.semiring_laws.specs.Semiring.{Operations}
use Rattle.weighted_automata.specs.declared.transitions.Entry.{Entry}
use Rattle.saturation_laws.specs.declared.event.Event.{Event}
use Rattle.saturation_laws.specs.declared.job.Job.{Job}
use Rattle.saturation_laws.specs.States.{seat_of}
use Rattle.saturation_laws.specs.Books.{BookValue, Makes}
use Rattle.saturation_laws.specs.Ways.{Way}
use Rattle.saturation_core.specs.declared.hand.Hand.{Hand}
use Rattle.saturation_core.specs.declared.hand.Taken.TheVariants.{Hand as InHand}
use Rattle.saturation_core.specs.Calls.{AnswersTake}
use Rattle.saturation_core.specs.DoneValue.{DoneValue}
use Rattle.saturation_core.specs.HandsOut.{HasOut}
use Rattle.tests_workers.specs.Seats.{IsOutOf, KeepsOthers}

module _ {S W Map D : Type 0} (operations : S → Operations W Map) (way : Way S W Map D) where
  -- a hand that was taken and worked out is out
  pub worked_out : (old new : BookValue S W Map D) (seat : ℕ) (hand : Hand S W Map) (w : DoneValue S W Map D) → AnswersTake operations way old seat (InHand hand) new → HasOut operations way new seat hand.jobs hand.goals
      → w.seat ≡ hand.seat → w.jobs ≡ hand.jobs → w.goals ≡ hand.goals → w.system ≡ old.system → w.direction ≡ old.direction → (w.seat ≡ seat) × IsOutOf operations way new w
  worked_out old new seat hand w answered out of jobs goals system direction =
      let at : w.seat ≡ seat = of ∙ ap (λ (h : Hand S W Map). h.seat) answered.2 in (
        at,
        (
          subst (λ n. HasOut operations way new n w.jobs w.goals) (sym at)
              (subst (λ js. HasOut operations way new seat js w.goals) (sym jobs)
              (subst (HasOut operations way new seat hand.jobs) (sym goals) out)),
          system ∙ sym (ap (λ (b : BookValue S W Map D). b.system) answered.1.2),
          direction ∙ sym (ap (λ (b : BookValue S W Map D). b.direction) answered.1.2),
        ),
      )

  -- an event of a seat leaves what is out of others
  pub keeps_others : (old new : BookValue S W Map D) (e : Event) → Makes operations way old e new
      → ((a b : BookValue S W Map D) (f : Event) (seat : ℕ) (jobs : List (Job S W Map)) (goals : List (Option (Entry S W Map))) → HasOut operations way a seat jobs goals → Makes operations way a f b → seat ≢ seat_of f
      → HasOut operations way b seat jobs goals)
      → KeepsOthers operations way (seat_of e) old new
  keeps_others old new e made stays w other out = (
    stays old new e w.seat w.jobs w.goals out.0 made other,
    out.1 ∙ sym (ap (λ (b : BookValue S W Map D). b.system) made.2),
    out.2 ∙ sym (ap (λ (b : BookValue S W Map D). b.direction) made.2),
  )

  -- and so do two, one after another
  pub keeps_both : {X E : Type 0} (r : Result X E) (old mid new : BookValue S W Map D) (seat own : ℕ) → own ≡ seat → KeepsOthers operations way seat old mid → OnOk r (KeepsOthers operations way own mid new)
      → OnOk r (KeepsOthers operations way seat old new)
  keeps_both (Ok x) old mid new seat own is one two = λ w other out. two w (λ same. other (same ∙ is)) (one w other out)
  keeps_both (Err e) old mid new seat own is one two = tt
