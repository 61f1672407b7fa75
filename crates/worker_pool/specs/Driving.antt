-- What a worker makes of its pass.
use Rattle.std.specs.Prelude.{◌≡◌, List, [], ◌∷◌, ◌++◌, Option, Some}
use Rattle.semiring_laws.specs.Semiring.{Operations}
use Rattle.weighted_automata.specs.declared.place.Place.{Place}
use Rattle.saturation_laws.specs.declared.event.Event.{Event}
use Rattle.seat_lock.specs.declared.view.View.{View}
use Rattle.seat_lock.specs.Passes.{own_number}
use Rattle.worker_pool.specs.declared.shared.Origin.{Origin}
use Rattle.worker_pool.specs.declared.round.Round.{Round}
use Rattle.worker_pool.specs.declared.round.Round.TheVariants.{Settled, Idle}
use Rattle.worker_pool.specs.declared.round.Round.TheVariants.{Closed as RoundClosed, Memory as RoundMemory}
use Rattle.worker_pool.specs.declared.driven.DriveEnd.{DriveEnd}
use Rattle.worker_pool.specs.declared.driven.DriveEnd.TheVariants.{Closed, Memory}
use Rattle.worker_pool.specs.Events.{turns_by, given_by}
use Rattle.worker_pool.specs.Origins.{IsClosedAfter}
use Rattle.worker_pool.specs.Turns.{HasMore}
use Rattle.saturation_laws.specs.Ways.{Way}

-- Each place that is taken is settled at once. Where there was no memory, the last may be given back.
abbrev pub HasDriven : {B : Type 0} → DriveEnd → View B Event → View B Event → Type 0
HasDriven Closed old new = (xs : List Place) × HasMore (turns_by (own_number old.claims) xs) old new
HasDriven Memory old new = (xs : List Place) × (x : Option Place) × HasMore (turns_by (own_number old.claims) xs ++ given_by (own_number old.claims) x) old new

module _ {S W Map D : Type 0} (operations : S → Operations W Map) (way : Way S W Map D) where
  -- what the pass has seen leads from the lock's opening to a closed book
  abbrev pub SeesClosed : View (Origin S D W Map) Event → View (Origin S D W Map) Event → Type 0
  SeesClosed old new = (o : Origin S D W Map) → old.base ≡ Some o → IsClosedAfter operations way o new.seen

  -- what a round of a worker makes of its pass
  abbrev pub HasRound : Round → View (Origin S D W Map) Event → View (Origin S D W Map) Event → Type 0
  HasRound Settled old new = (x : Place) × HasMore (turns_by (own_number old.claims) (x ∷ [])) old new
  HasRound Idle old new = HasMore [] old new
  HasRound RoundClosed old new = HasMore [] old new × SeesClosed old new
  HasRound RoundMemory old new = (x : Option Place) × HasMore (given_by (own_number old.claims) x) old new
