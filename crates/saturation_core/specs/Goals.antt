-- What a hand has seen at the goals of its jobs, and what their worths make of that.
use Rattle.std.specs.Prelude.{◌≡◌, ℕ, List, [], ◌∷◌, map, length, Option, Some, option_map, slice_get, All, IfSome}
use Rattle.semiring_laws.specs.Semiring.{Operations, Fits}
use Rattle.weighted_automata.specs.declared.place.Place.{Place}
use Rattle.weighted_automata.specs.declared.transitions.Entry.{Entry}
use Rattle.weighted_automata.specs.Entries.{entry_at}
use Rattle.saturation_laws.specs.declared.job.Job.{Job}
use Rattle.saturation_laws.specs.Jobs.{node_of}
use Rattle.saturation_laws.specs.States.{weight_of}
use Rattle.saturation_laws.specs.Openings.{changed_weight}

module _ {S W Map : Type 0} where
  -- the transition at the goal of each job, where there is one
  abbrev pub goals_of : List (Job S W Map) → List (Entry S W Map) → List (Option (Entry S W Map))
  goals_of js ts = map (λ j. entry_at j.goal ts) js

  -- where a place has the node that was seen there, it has the transition that was seen there
  abbrev pub StillTells : List (Entry S W Map) → Place → Option (Entry S W Map) → Type 0
  StillTells ts x seen = option_map node_of (entry_at x ts) ≡ option_map node_of seen → entry_at x ts ≡ seen

  -- What was seen at the goals of jobs still tells, goal by goal.
  pub record StillTell (ts : List (Entry S W Map)) (js : List (Job S W Map)) (goals : List (Option (Entry S W Map))) : Type 0 where
    pub long : length goals ≡ length js
    pub each : (k : ℕ) (j : Job S W Map) (seen : Option (Entry S W Map)) → slice_get js k ≡ Some j → slice_get goals k ≡ Some seen → StillTells ts j.goal seen

module _ {S W Map : Type 0} (s : Operations W Map) where
  -- what was seen has a weight of the semiring
  abbrev pub FitsGoal : Option (Entry S W Map) → Type 0
  FitsGoal seen = IfSome seen (λ t. Fits s t.weight)

  -- Sums can be made of what was seen at the goals of jobs and what these are worth: all are weights of the semiring.
  pub record CanSum (js : List (Job S W Map)) (goals : List (Option (Entry S W Map))) (worths : List W) : Type 0 where
    pub long : length goals ≡ length js
    pub seen : All FitsGoal goals
    pub worth : All (Fits s) worths

  -- what each worth makes of the weight that was seen, where it changes it
  abbrev pub sums_of : List (Option (Entry S W Map)) → List W → List (Option W)
  sums_of [] ws = []
  sums_of (seen ∷ goals) [] = []
  sums_of (seen ∷ goals) (w ∷ ws) = changed_weight s (weight_of s seen) w ∷ sums_of goals ws
