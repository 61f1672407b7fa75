-- A book, as contracts see it.
use Rattle.std.specs.Prelude.{◌≡◌, ℕ, ◌≤◌, List, length, [], ◌∷◌, ◌++◌, Option, None, Some, ◌+◌, ◌*◌, IsTrue}
use Rattle.semiring_laws.specs.Semiring.{Operations}
use Rattle.pushdown_rules.specs.Pushdown.{Pushdown, IsSystem}
use Rattle.pushdown_rules.specs.Values.{value_of}
use Rattle.saturation_laws.specs.declared.event.Event.{Event}
use Rattle.saturation_laws.specs.declared.opening.Opening.{Opening}
use Rattle.saturation_laws.specs.declared.job.Job.{Job}
use Rattle.saturation_laws.specs.States.{CoreState, hand_at, step, replay}
use Rattle.saturation_laws.specs.Directions.{IsConsequence}
use Rattle.saturation_laws.specs.Invariants.{LockInvariant, IsApplied}
use Rattle.saturation_laws.specs.Bound.{takes, gives, WithinRankBound}
use Rattle.saturation_laws.specs.Ways.{Way, HaveFitInputs, start_of, AreRows}

pub record BookValue (S W Map D : Type 0) : Type 0 where
  pub system : Pushdown S W Map
  pub direction : D
  pub opening : Opening
  pub state : CoreState S W Map
  pub journal : List Event

module _ {S W Map D : Type 0} where
  -- no hand is out
  abbrev pub NoHand : BookValue S W Map D → Type 0
  NoHand b = (seat : ℕ) → hand_at seat b.state.hands ≡ None

  -- the queue is empty and no hand is out
  abbrev pub IsClosed : BookValue S W Map D → Type 0
  IsClosed b = (b.state.queue ≡ []) × NoHand b

module _ {S W Map D : Type 0} (operations : S → Operations W Map) (way : Way S W Map D) where
  abbrev pub opened_by : BookValue S W Map D → CoreState S W Map
  opened_by b = start_of operations way b.direction b.system b.opening

  abbrev pub replayed : BookValue S W Map D → Option (CoreState S W Map)
  replayed b = replay (operations b.system.semiring) (way.tables b.direction b.system) (opened_by b) b.journal

  -- the event makes the one book of the other, and joins the journal
  abbrev pub Makes : BookValue S W Map D → Event → BookValue S W Map D → Type 0
  Makes old e new = (st : CoreState S W Map) × (step (operations old.system.semiring) (way.tables old.direction old.system) old.state e ≡ Some st)
      × (new ≡ record old { state = st; journal = old.journal ++ e ∷ [] })

  -- each consequence of the book's transitions is applied
  abbrev pub IsAllApplied : BookValue S W Map D → Type 0
  IsAllApplied b = (j : Job S W Map) → IsConsequence (way.tables b.direction b.system) b.state.transitions j
      → IsApplied (operations b.system.semiring) (way.tables b.direction b.system) b.state.transitions j

  -- jobs that a worker can work out over the book's system: rows, whose inputs have weights
  pub record CanWork (b : BookValue S W Map D) (jobs : List (Job S W Map)) : Type 0 where
    pub rows : AreRows way b.direction b.system jobs
    pub inputs : HaveFitInputs operations b.system jobs

  -- the bound on how often transitions were taken
  abbrev pub TakesAreBounded : BookValue S W Map D → Type 0
  TakesAreBounded b = takes b.journal
      ≤ length (opened_by b).transitions + length (way.places b.direction b.system b.opening) * ((operations b.system.semiring).top_rank + 1) + gives b.journal

  -- and on how many nodes there are
  abbrev pub NodesAreBounded : BookValue S W Map D → Type 0
  NodesAreBounded b = length b.state.nodes
      ≤ length (opened_by b).nodes + length (way.places b.direction b.system b.opening) * (operations b.system.semiring).top_rank

  -- The book is the replay of its journal from its opening, and so it meets the lock invariant and the bound.
  pub record IsBook (b : BookValue S W Map D) : Type 0 where
    pub system : IsSystem operations b.system
    pub fits : IsTrue (way.fits_opening b.direction b.system b.opening)
    pub replays : replayed b ≡ Some b.state
    pub lock : LockInvariant (operations b.system.semiring) (value_of (operations b.system.semiring) b.system) (way.runs b.direction b.system b.opening)
        (way.tables b.direction b.system) (opened_by b).transitions b.state
    pub bound : WithinRankBound (operations b.system.semiring) (way.places b.direction b.system b.opening) (opened_by b) b.journal b.state
