-- What a direction means, as one record, and its laws.
use Rattle.std.specs.Prelude.{ℕ, Bool, List, map, IsTrue, All}
use Rattle.semiring_laws.specs.Semiring.{Operations, Fits}
use Rattle.weighted_automata.specs.declared.place.Place.{Place}
use Rattle.weighted_automata.specs.declared.transitions.Entry.{Entry}
use Rattle.weighted_automata.specs.Entries.{entry_at, Present, HasDistinctPlaces}
use Rattle.wpds_base.specs.Lists.{IsOnce}
use Rattle.pushdown_rules.specs.Pushdown.{Pushdown, IsSystem}
use Rattle.pushdown_rules.specs.Values.{value_of}
use Rattle.saturation_laws.specs.declared.opening.Opening.{Opening}
use Rattle.saturation_laws.specs.Jobs.{Tables, row_of, InputsFit}
use Rattle.saturation_laws.specs.declared.job.Job.{Job}
use Rattle.saturation_laws.specs.Directions.{IsDirection, HaveSameCandidates}
use Rattle.saturation_laws.specs.Paths.{HasSums}
use Rattle.saturation_laws.specs.States.{CoreState, jobs_at}
use Rattle.saturation_laws.specs.Openings.{opening_state}

-- What the values of `D` mean over each system and opening.
pub record Way (S W Map D : Type 0) : Type 1 where
  -- the side, the rows, their candidates, and the jobs
  pub tables : D → Pushdown S W Map → Tables S W Map
  -- whether it fits an opening
  pub fits_opening : D → Pushdown S W Map → Opening → Bool
  -- the places that it can reach
  pub places : D → Pushdown S W Map → Opening → List Place
  -- the runs of a place
  pub runs : D → Pushdown S W Map → Opening → Place → List ℕ → Type 0

module _ {S W Map : Type 0} (operations : S → Operations W Map) (p : Pushdown S W Map) where
  -- the transitions' weights are weights of the system's semiring
  abbrev pub HaveFitWeights : List (Entry S W Map) → Type 0
  HaveFitWeights ts = All (λ t. Fits (operations p.semiring) t.weight) ts

  -- and so are those of the jobs' inputs
  abbrev pub HaveFitInputs : List (Job S W Map) → Type 0
  HaveFitInputs jobs = All (InputsFit (operations p.semiring)) jobs

module _ {S W Map D : Type 0} (operations : S → Operations W Map) (way : Way S W Map D) where
  -- the state that a saturation begins with
  abbrev pub start_of : D → Pushdown S W Map → Opening → CoreState S W Map
  start_of d p o = opening_state (operations p.semiring) (way.tables d p).side p o.edges

  -- the jobs of the transition at a place
  abbrev pub jobs_of_place : D → Pushdown S W Map → Place → List (Entry S W Map) → List (Job S W Map)
  jobs_of_place d p x ts = jobs_at (operations p.semiring) (way.tables d p) (entry_at x ts) ts

  -- What holds over each system and opening that it fits.
  abbrev pub IsLawful : Type 0
  IsLawful = (d : D) (p : Pushdown S W Map) (o : Opening) → IsSystem operations p → IsTrue (way.fits_opening d p o)
      → IsDirection (operations p.semiring) p o (way.tables d p) (way.places d p o) (way.runs d p o)

  -- A run is met by a path, and a path gives a run.
  abbrev pub HasPathSums : D → Pushdown S W Map → Opening → Type 0
  HasPathSums d p o = HasSums (operations p.semiring) (value_of (operations p.semiring) p) p o (way.tables d p).side (way.tables d p)
      (start_of d p o).transitions (way.runs d p o)

  -- What the sums rest on, over each system and opening that it fits.
  abbrev pub IsSummable : Type 0
  IsSummable = (d : D) (p : Pushdown S W Map) (o : Opening) → IsSystem operations p → IsTrue (way.fits_opening d p o) → HasPathSums d p o

  -- Each job of a transition stands once, over each system and opening that it fits.
  abbrev pub ListsJobsOnce : Type 0
  ListsJobsOnce = (d : D) (p : Pushdown S W Map) (o : Opening) → IsSystem operations p → IsTrue (way.fits_opening d p o)
      → (ts : List (Entry S W Map)) (t : Entry S W Map) → HasDistinctPlaces ts → Present ts t → IsOnce ((way.tables d p).jobs ts t)

module _ {S W Map D : Type 0} (way : Way S W Map D) where
  -- what the jobs are worth, in order
  abbrev pub worths_of : D → Pushdown S W Map → List (Job S W Map) → List W
  worths_of d p jobs = map (way.tables d p).candidate jobs

  -- each job is of a row
  abbrev pub AreRows : D → Pushdown S W Map → List (Job S W Map) → Type 0
  AreRows d p jobs = All (λ j. IsTrue ((way.tables d p).rows (row_of j))) jobs

  -- A candidate depends on the job, the side, the semiring's parameters and the rules that the job names, and on nothing else.
  abbrev pub HasOneCandidate : Type 0
  HasOneCandidate = (d e : D) (p q : Pushdown S W Map) → HaveSameCandidates (way.tables d p) (way.tables e q) p q
