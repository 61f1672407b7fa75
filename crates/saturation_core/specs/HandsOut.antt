-- Hands that are out of a book, from when they were taken.
use Rattle.std.specs.Prelude.{◌≡◌, ℕ, List, ◌++◌, Option}
use Rattle.semiring_laws.specs.Semiring.{Operations}
use Rattle.weighted_automata.specs.declared.transitions.Entry.{Entry}
use Rattle.saturation_laws.specs.declared.event.Event.{Event}
use Rattle.saturation_laws.specs.declared.job.Job.{Job}
use Rattle.saturation_laws.specs.States.{AreOfOthers}
use Rattle.saturation_laws.specs.Books.{BookValue, IsBook}
use Rattle.saturation_laws.specs.Ways.{Way}
use Rattle.saturation_core.specs.declared.hand.Taken.TheVariants.{Hand as InHand}
use Rattle.saturation_core.specs.Calls.{AnswersTake}

module _ {S W Map D : Type 0} where
  -- the one book is the other after these events more
  abbrev pub IsLater : BookValue S W Map D → List Event → BookValue S W Map D → Type 0
  IsLater old es new = new ≡ record old { state = new.state; journal = old.journal ++ es }

module _ {S W Map D : Type 0} (operations : S → Operations W Map) (way : Way S W Map D) where
  -- A book answered the seat with a hand with these jobs, at whose goals this was seen, and the events since are of other seats.
  pub record HasOut (b : BookValue S W Map D) (seat : ℕ) (jobs : List (Job S W Map)) (goals : List (Option (Entry S W Map))) : Type 0 where
    pub asked : BookValue S W Map D
    pub given : BookValue S W Map D
    pub since : List Event
    pub book : IsBook operations way asked
    pub taken : AnswersTake operations way asked seat (InHand (record { seat = seat; jobs = jobs; goals = goals })) given
    pub later : IsLater given since b
    pub others : AreOfOthers seat since
