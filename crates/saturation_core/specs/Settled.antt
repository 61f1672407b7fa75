-- A hand that was worked out, and when a book can settle it.
use Rattle.std.specs.Prelude.{◌≡◌, ℕ, List, Option, Some, option_map, All}
use Rattle.saturation_laws.specs.declared.job.Job.{Job}
use Rattle.saturation_laws.specs.declared.holding.Holding.{Holding}
use Rattle.saturation_core.specs.DoneValue.{DoneValue}
use Rattle.saturation_core.specs.Goals.{StillTell}
use Rattle.saturation_laws.specs.States.{hand_at}
use Rattle.saturation_laws.specs.Directions.{AgreeOn}
use Rattle.saturation_laws.specs.Books.{BookValue}
use Rattle.saturation_laws.specs.Ways.{Way, worths_of}

module _ {S W Map : Type 0} where
  abbrev pub jobs_of : Holding S W Map → List (Job S W Map)
  jobs_of h = h.jobs

  -- the jobs that a seat's hand lists, where it has one
  abbrev pub jobs_out : ℕ → List (Option (Holding S W Map)) → Option (List (Job S W Map))
  jobs_out seat hands = option_map jobs_of (hand_at seat hands)

module _ {S W Map D : Type 0} (way : Way S W Map D) where
  -- its direction made the candidates of the jobs, over its system
  abbrev pub IsWorked : DoneValue S W Map D → Type 0
  IsWorked w = w.candidates ≡ worths_of way w.direction w.system w.jobs

  -- The book can settle it.
  pub record CanSettle (b : BookValue S W Map D) (w : DoneValue S W Map D) : Type 0 where
    -- the seat's hand lists the jobs
    pub hand : jobs_out w.seat b.state.hands ≡ Some w.jobs
    pub side : (way.tables w.direction w.system).side ≡ (way.tables b.direction b.system).side
    -- the semirings are equal, and so is each rule that a job names
    pub semiring : b.system.semiring ≡ w.system.semiring
    pub rules : All (AgreeOn b.system w.system) w.jobs
    -- where a goal has the node that was seen, it has the transition that was seen
    pub goals : StillTell b.state.transitions w.jobs w.goals
