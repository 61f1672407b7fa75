-- What a turn of a worker makes of its pass.
use Rattle.std.specs.Prelude.{◌≡◌, List, [], ◌∷◌, ◌++◌, Option, Some, Bool, true, false}
use mathlib.Core.List.{IsPrefix}
use Rattle.semiring_laws.specs.Semiring.{Operations}
use Rattle.weighted_automata.specs.declared.place.Place.{Place}
use Rattle.weighted_automata.specs.declared.transitions.Entry.{Entry}
use Rattle.pushdown_rules.specs.Pushdown.{Pushdown}
use Rattle.saturation_laws.specs.declared.event.Event.{Event}
use Rattle.saturation_laws.specs.declared.event.Event.TheVariants.{Take, Settle, GiveBack}
use Rattle.saturation_laws.specs.declared.job.Job.{Job}
use Rattle.saturation_laws.specs.States.{seat_of}
use Rattle.saturation_laws.specs.Books.{BookValue}
use Rattle.saturation_core.specs.HandsOut.{HasOut}
use Rattle.seat_lock.specs.declared.view.View.{View}
use Rattle.seat_lock.specs.Queue.{of_pass}
use Rattle.seat_lock.specs.Passes.{own_number, own_entries, joined_in}
use Rattle.worker_pool.specs.declared.shared.Origin.{Origin}
use Rattle.worker_pool.specs.declared.asked.Asked.{Asked}
use Rattle.worker_pool.specs.declared.asked.Asked.TheVariants.{Idle, Closed, Memory}
use Rattle.worker_pool.specs.declared.asked.Asked.TheVariants.{Hand as InHand}
use Rattle.worker_pool.specs.Origins.{origin_of, IsClosedAfter}
use Rattle.worker_pool.specs.Steps.{WorkFits}
use Rattle.saturation_laws.specs.Ways.{Way}

module _ {B E : Type 0} where
  -- What a pass keeps over turns.
  pub record Keeps (old new : View B E) : Type 0 where
    pub base : new.base ≡ old.base
    pub seen : IsPrefix old.seen new.seen
    pub number : own_number new.claims ≡ own_number old.claims
    pub joined : joined_in new.claims ≡ joined_in old.claims

  -- the pass has these entries more of its own
  abbrev pub HasMore : List E → View B E → View B E → Type 0
  HasMore es old new = own_entries new.claims ≡ own_entries old.claims ++ es

module _ {S W Map D : Type 0} (operations : S → Operations W Map) (way : Way S W Map D) where
  -- A book whose journal is what the pass has seen, with its own events and no others of its seat, has a hand of its seat out with these jobs, at whose goals this was seen.
  pub record HoldsHand (v : View (Origin S D W Map) Event) (jobs : List (Job S W Map)) (goals : List (Option (Entry S W Map))) : Type 0 where
    pub book : BookValue S W Map D
    pub based : v.base ≡ Some (origin_of book)
    pub seen : v.seen ≡ book.journal
    pub own : of_pass seat_of (own_number v.claims) v.seen ≡ own_entries v.claims
    pub out : HasOut operations way book (own_number v.claims) jobs goals

module _ {S W Map D : Type 0} where
  -- the pass knows a base, as each does that had a turn
  abbrev pub IsBased : View (Origin S D W Map) Event → Type 0
  IsBased v = (o : Origin S D W Map) × (v.base ≡ Some o)

  -- the system and the direction of the pass's base are these
  abbrev pub IsOver : View (Origin S D W Map) Event → Pushdown S W Map → D → Type 0
  IsOver v p d = (o : Origin S D W Map) → v.base ≡ Some o → (p ≡ o.system) × (d ≡ o.direction)

module _ {S W Map D : Type 0} (operations : S → Operations W Map) (way : Way S W Map D) where
  -- what a pass learns that asks for work
  abbrev pub HasAsked : Asked S D W Map → View (Origin S D W Map) Event → View (Origin S D W Map) Event → Type 0
  HasAsked (InHand hand system direction) old new =
      ((x : Place) × HasMore (Take (own_number old.claims) x ∷ []) old new)
      × (hand.seat ≡ own_number old.claims) × HoldsHand operations way new hand.jobs hand.goals × WorkFits operations way system.now direction hand × IsOver old system.now direction
  HasAsked Idle old new = HasMore [] old new
  HasAsked Closed old new = HasMore [] old new × ((o : Origin S D W Map) → old.base ≡ Some o → IsClosedAfter operations way o new.seen)
  HasAsked Memory old new = HasMore [] old new

-- the hand is settled, or given back
abbrev pub HasSettled : {B : Type 0} → Bool → View B Event → View B Event → Type 0
HasSettled true old new = HasMore (Settle (own_number old.claims) ∷ []) old new
HasSettled false old new = HasMore (GiveBack (own_number old.claims) ∷ []) old new
