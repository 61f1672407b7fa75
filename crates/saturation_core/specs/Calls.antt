-- What a call of a book answers.
use Rattle.std.specs.Prelude.{◌≡◌, ℕ, []}
use Rattle.semiring_laws.specs.Semiring.{Operations}
use Rattle.weighted_automata.specs.declared.place.Place.{Place}
use Rattle.saturation_laws.specs.declared.event.Event.TheVariants.{Take, Settle}
use Rattle.saturation_core.specs.declared.hand.Taken.{Taken}
use Rattle.saturation_core.specs.declared.hand.Taken.TheVariants.{Idle, Closed}
use Rattle.saturation_core.specs.declared.hand.Taken.TheVariants.{Hand as InHand}
use Rattle.saturation_laws.specs.Books.{BookValue, NoHand, IsClosed, Makes, CanWork}
use Rattle.saturation_laws.specs.Ways.{Way, jobs_of_place, worths_of}
use Rattle.saturation_core.specs.Seats.{seat_bits}
use Rattle.saturation_core.specs.Goals.{goals_of, CanSum}

module _ {S W Map D : Type 0} (operations : S → Operations W Map) (way : Way S W Map D) where
  -- what a seat may be answered
  abbrev pub AnswersTake : BookValue S W Map D → ℕ → Taken S W Map → BookValue S W Map D → Type 0
  AnswersTake old seat (InHand h) new =
      (x : Place) × Makes operations way old (Take seat x) new
      × (let jobs = jobs_of_place operations way old.direction old.system x old.state.transitions in
      h ≡ record { seat = seat; jobs = jobs; goals = goals_of jobs old.state.transitions })
  AnswersTake old seat (Idle seats) new = (old.state.queue ≡ []) × (NoHand old → ⊥) × (seats.bits ≡ seat_bits old.state.hands) × (new ≡ old)
  AnswersTake old seat Closed new = IsClosed old × (new ≡ old)

  -- a hand that is answered can be worked on
  abbrev pub HandWorks : BookValue S W Map D → Taken S W Map → Type 0
  HandWorks b (InHand h) = CanWork operations way b h.jobs × CanSum (operations b.system.semiring) h.jobs h.goals (worths_of way b.direction b.system h.jobs)
  HandWorks b (Idle seats) = Unit {0}
  HandWorks b Closed = Unit {0}

  -- the seat takes the transition that waits longest, and settles what it gives
  abbrev pub TakesAndSettles : ℕ → BookValue S W Map D → BookValue S W Map D → Type 0
  TakesAndSettles seat old new =
      (x : Place) × (mid : BookValue S W Map D) × Makes operations way old (Take seat x) mid × Makes operations way mid (Settle seat) new
