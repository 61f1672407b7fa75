-- A hand whose jobs are worked out, as contracts see it.
use Rattle.std.specs.Prelude.{ℕ, List, Option}
use Rattle.weighted_automata.specs.declared.transitions.Entry.{Entry}
use Rattle.pushdown_rules.specs.Pushdown.{Pushdown}
use Rattle.saturation_laws.specs.declared.job.Job.{Job}

pub record DoneValue (S W Map D : Type 0) : Type 0 where
  pub seat : ℕ
  pub jobs : List (Job S W Map)
  -- what each job is worth, in order
  pub candidates : List W
  -- the transition at the goal of each job as it was seen, where there was one
  pub goals : List (Option (Entry S W Map))
  -- the way in which they were worked out, and over which system
  pub direction : D
  pub system : Pushdown S W Map
