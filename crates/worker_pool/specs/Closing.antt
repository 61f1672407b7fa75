-- That one worker closes a book.
use Rattle.std.specs.Prelude.{ℕ, []}
use Rattle.semiring_laws.specs.Semiring.{Operations}
use Rattle.pushdown_rules.specs.Pushdown.{Pushdown}
use Rattle.saturation_laws.specs.declared.opening.Opening.{Opening}
use Rattle.saturation_laws.specs.Books.{BookValue, IsBook, IsClosed}
use Rattle.saturation_laws.specs.Ways.{Way, start_of}
use Rattle.worker_pool.specs.Alone.{HasBase, IsAlone}
use Rattle.worker_pool.specs.Errands.{IsWorkedBySeats}
use Rattle.worker_pool.specs.Workers.{IsWorkerCount}

module _ {S W Map D : Type 0} (operations : S → Operations W Map) (way : Way S W Map D) where
  -- the book of a system, a direction and an opening before its first event
  abbrev pub just_opened : Pushdown S W Map → D → Opening → BookValue S W Map D
  just_opened p d o = record { system = p; direction = d; opening = o; state = start_of operations way d p o; journal = [] }

  -- The one book is what a worker alone makes of the other: of the same base, and closed.
  pub record IsClosedAlone (from to : BookValue S W Map D) : Type 0 where
    pub base : HasBase from to
    pub book : IsBook operations way to
    pub closed : IsClosed to
    pub alone : IsAlone to.journal
    -- it might be of any number of workers, of whom the others found nothing to do
    pub seats : (workers : ℕ) → IsWorkerCount workers → IsWorkedBySeats workers to.journal
