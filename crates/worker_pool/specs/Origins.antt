-- What a shared book begins with, and what a journal makes of it.
use Rattle.std.specs.Prelude.{◌≡◌, ℕ, List, [], Option, Some, None}
use Rattle.semiring_laws.specs.Semiring.{Operations}
use Rattle.saturation_laws.specs.declared.event.Event.{Event}
use Rattle.saturation_laws.specs.States.{CoreState, hand_at, replay}
use Rattle.saturation_laws.specs.Books.{BookValue}
use Rattle.worker_pool.specs.declared.shared.Origin.{Origin}
use Rattle.saturation_laws.specs.Ways.{Way, start_of}

module _ {S W Map D : Type 0} where
  abbrev pub origin_of : BookValue S W Map D → Origin S D W Map
  origin_of b = record { system = b.system; direction = b.direction; opening = b.opening }

module _ {S W Map D : Type 0} (operations : S → Operations W Map) (way : Way S W Map D) where
  -- the state after a journal
  abbrev pub state_after : Origin S D W Map → List Event → Option (CoreState S W Map)
  state_after o log =
      replay (operations o.system.semiring) (way.tables o.direction o.system) (start_of operations way o.direction o.system o.opening) log

  -- after this journal nothing waits and no hand is out
  abbrev pub IsClosedAfter : Origin S D W Map → List Event → Type 0
  IsClosedAfter o log = (st : CoreState S W Map) × (state_after o log ≡ Some st) × (st.queue ≡ []) × ((seat : ℕ) → hand_at seat st.hands ≡ None)
