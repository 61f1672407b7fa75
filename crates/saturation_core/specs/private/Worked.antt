-- A job that was worked out, and what it makes of its goal.
use Rattle.std.specs.Prelude.{◌≡◌, ℕ, List, option_map, slice_get, Some}
use Rattle.semiring_laws.specs.Semiring.{Operations, Fits}
use Rattle.weighted_automata.specs.declared.transitions.Entry.{Entry}
use Rattle.weighted_automata.specs.Entries.{entry_at}
use Rattle.saturation_laws.specs.Jobs.{node_of}
use Rattle.saturation_laws.specs.States.{weight_at, weight_of}
use Rattle.saturation_laws.specs.Openings.{changed_weight}
use Rattle.saturation_core.specs.DoneValue.{DoneValue}
use Rattle.saturation_core.specs.Goals.{FitsGoal}
use Rattle.saturation_core.specs.declared.hand.Worked.{Worked}
use Rattle.saturation_core.specs.declared.plan.Changed.{Changed}

module _ {S W Map : Type 0} (s : Operations W Map) where
  -- The sum is what the worth makes of the weight that was seen, both weights of the semiring.
  pub record IsSummed (w : Worked S W Map) : Type 0 where
    pub worth : Fits s w.worth.now
    pub seen : FitsGoal s w.seen.now
    pub sum : w.sum.now ≡ changed_weight s (weight_of s w.seen.now) w.worth.now

  -- It is the job of this number, with what was worked out of it.
  pub record IsWorkedJob {D : Type 0} (done : DoneValue S W Map D) (k : ℕ) (w : Worked S W Map) : Type 0 where
    pub job : slice_get done.jobs k ≡ Some w.job.now
    pub worth : slice_get done.candidates k ≡ Some w.worth.now
    pub goal : slice_get done.goals k ≡ Some w.seen.now
    pub fits : FitsGoal s w.seen.now
    pub sum : w.sum.now ≡ changed_weight s (weight_of s w.seen.now) w.worth.now

  -- This is the node at the goal, and what the worth makes of the weight there.
  pub record IsChanged (ts : List (Entry S W Map)) (w : Worked S W Map) (c : Changed S W Map) : Type 0 where
    pub before : c.before ≡ option_map node_of (entry_at w.job.now.goal ts)
    pub weight : c.weight ≡ changed_weight s (weight_at s w.job.now.goal ts) w.worth.now
