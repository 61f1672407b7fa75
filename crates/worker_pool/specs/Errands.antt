-- Passes that are handed to threads.
use Rattle.std.specs.Prelude.{◌≡◌, ℕ, ◌+◌, ◌*◌, ◌<◌, ◌≤◌, List, [], ◌∷◌, ◌++◌, length, Option}
use Rattle.semiring_laws.specs.Semiring.{Operations}
use Rattle.weighted_automata.specs.declared.place.Place.{Place}
use Rattle.saturation_laws.specs.declared.event.Event.{Event}
use Rattle.seat_lock.specs.declared.view.Journaled.{Ghosts}
use Rattle.seat_lock.specs.declared.lock.Pass.{Pass}
use Rattle.seat_lock.specs.declared.lock.SeatLock.{SeatLock}
use Rattle.seat_lock.specs.Queue.{Each, of_pass}
use Rattle.seat_lock.specs.Passes.{own_entries}
use Rattle.seat_lock.specs.Words.{IsOf}
use Rattle.worker_pool.specs.declared.driven.DriveEnd.{DriveEnd}
use Rattle.saturation_laws.specs.States.{seat_of}
use Rattle.saturation_laws.specs.Bound.{takes}
use Rattle.saturation_laws.specs.Books.{BookValue, opened_by}
use Rattle.saturation_laws.specs.Ways.{Way}
use Rattle.worker_pool.specs.Events.{turns_by, given_by}
use Rattle.worker_pool.specs.Passes.{IsSame}
use Rattle.worker_pool.specs.Turns.{Keeps}
use Rattle.worker_pool.specs.Driving.{HasDriven}

-- a worker's events: each place that it takes is settled at once, and the last may be given back
abbrev pub IsDrivenBy : ℕ → List Event → Type 0
IsDrivenBy seat es = (xs : List Place) × (x : Option Place) × (es ≡ turns_by seat xs ++ given_by seat x)

-- Each event is of one of so many seats, and each seat has worked so. So a seat gives back at most once, and last.
pub record IsWorkedBySeats (workers : ℕ) (log : List Event) : Type 0 where
  pub seats : Each (λ e. seat_of e < workers) log
  pub each : (seat : ℕ) → IsDrivenBy seat (of_pass seat_of seat log)

module _ {S W Map D : Type 0} (operations : S → Operations W Map) (way : Way S W Map D) where
  -- so many workers take no more often than there are transitions in the opening, falls of ranks, and workers
  abbrev pub AreTakenFew : ℕ → BookValue S W Map D → Type 0
  AreTakenFew workers b = takes b.journal
      ≤ length (opened_by operations way b).transitions + length (way.places b.direction b.system b.opening) * ((operations b.system.semiring).top_rank + 1) + workers

module _ {T B : Type 0} {J : Ghosts T B Event} where
  -- what a worker makes of its pass, however it ends
  abbrev pub HasRun : Pass T B Event J → Pass T B Event J → Type 0
  HasRun p q = IsSame p q × Keeps p.seat.me.0 q.seat.me.0 × ((end : DriveEnd) × HasDriven end p.seat.me.0 q.seat.me.0)

  -- pass 0 for so many workers, before it makes another
  abbrev pub HasMadeNone : ℕ → Pass T B Event J → Type 0
  HasMadeNone workers p = (p.number ≡ 0) × (p.left + 1 ≡ workers) × (p.joined ≡ 1) × (p.made ≡ 1) × (p.seat.me.0.claims ≡ (0, []) ∷ [])

  -- A pass of the lock for one of so many workers, alone, with no events.
  pub record IsFresh (lock : SeatLock T B Event) (workers : ℕ) (p : Pass T B Event J) : Type 0 where
    pub of : IsOf p lock
    pub seat : p.number < workers
    pub joined : p.joined ≡ 1
    pub own : own_entries p.seat.me.0.claims ≡ []

  -- The same after its work.
  pub record IsDone (lock : SeatLock T B Event) (workers : ℕ) (p : Pass T B Event J) : Type 0 where
    pub of : IsOf p lock
    pub seat : p.number < workers
    pub joined : p.joined ≡ 1
    pub own : IsDrivenBy p.number (own_entries p.seat.me.0.claims)

  -- The pass 0, which knows that so many passes were made.
  pub record IsFirst (base : Option B) (workers : ℕ) (p : Pass T B Event J) : Type 0 where
    pub number : p.number ≡ 0
    pub made : p.made ≡ workers
    pub based : p.seat.me.0.base ≡ base

  -- The pass 0, into which so many passes are joined, each after its work.
  pub record IsJoined (lock : SeatLock T B Event) (workers count : ℕ) (p : Pass T B Event J) : Type 0 where
    pub of : IsOf p lock
    pub counted : p.joined ≡ count
    pub claims : Each (λ c. (c.0 < workers) × IsDrivenBy c.0 c.1) p.seat.me.0.claims
