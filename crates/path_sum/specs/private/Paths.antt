-- The runs of a sum, along the paths that read the pattern.
use Rattle.std.specs.Prelude.{◌≡◌, ℕ, ◌<◌, Bool, IsTrue, List, [], Option, None, Some, ◌↔◌}
use Rattle.pushdown_rules.specs.Configuration.{Configuration}
use Rattle.pushdown_rules.specs.Pushdown.{Pushdown}
use Rattle.saturation_laws.specs.Invariants.{IsSound, HasShape}
use Rattle.saturation_laws.specs.Openings.{found_so_far}
use Rattle.saturation_laws.specs.Paths.{Reads, IsPath, EachRun, joined, IsOpened, Joins, IsGiven}
use Rattle.saturation_laws.specs.States.{CoreState}
use Rattle.saturation_laws.specs.declared.opening.Opening.{Opening}
use Rattle.semiring_laws.specs.Semiring.{Operations, Fits}
use Rattle.weighted_automata.specs.Entries.{entry_at, Present}
use Rattle.weighted_automata.specs.declared.place.Label.{Label}
use Rattle.weighted_automata.specs.declared.place.Label.TheVariants.{Symbol, Empty}
use Rattle.weighted_automata.specs.declared.place.Place.{Place}
use Rattle.weighted_automata.specs.declared.transitions.Entry.{Entry}
use Rattle.witness_graph.specs.Runs.{runs_of}
use Rattle.witness_graph.specs.declared.node.Node.{Node}
use Rattle.witness_graph.specs.declared.node.Side.{Side}
use Rattle.wpds_base.specs.Lists.{IsIn}
use Rattle.path_sum.specs.Sums.{Ways, answer_place}
use Rattle.path_sum.specs.private.Inputs.{SumInputValue}

-- the automaton reads the configuration to a final state
abbrev pub HasWay : Ways → Configuration → Type 0
HasWay ways c = (c.control ≡ ways.control) × (i : ℕ) × Reads ways.edges 0 c.stack i × IsTrue (ways.final i)

-- the pattern goes with a transition of this label
abbrev pub Moves : List Place → ℕ → Label → ℕ → Type 0
Moves edges i (Symbol g) j = IsIn (record { from = i; label = Symbol g; to = j }) edges
Moves edges i Empty j = i ≡ j

module _ (side : Side) (o : Opening) (ways : Ways) (runs : Place → List ℕ → Type 0) where
  -- runs along a path that reads a word of the pattern to a pair
  abbrev pub PairRun : ℕ → ℕ → List ℕ → Type 0
  PairRun i q run = (word : List ℕ) × (xs : List Place) × (rs : List (List ℕ)) × Reads ways.edges 0 word i × IsPath xs ways.control word q × EachRun runs xs rs × (run ≡ joined side rs)

module _ {S W Map : Type 0} (p : Pushdown S W Map) (side : Side) (o : Opening) (ways : Ways) (runs : Place → List ℕ → Type 0) where
  -- runs that join a configuration of the pattern with one of the opening
  abbrev pub AnswerRun : List ℕ → Type 0
  AnswerRun run = (c : Configuration) × (d : Configuration) × HasWay ways c × IsOpened o d × (d.control < p.controls) × Joins side p c run d

  abbrev pub SumRun : Place → List ℕ → Type 0
  SumRun x run = elim x.label [ Empty ↦ PairRun side o ways runs x.from x.to run | Symbol g ↦ AnswerRun run ]

-- The tests of a query: `near` is the pattern that is summed over, `far` the one that the saturation began with.
pub record IsQuery {S W Map : Type 0} (p : Pushdown S W Map) (o : Opening) (ways : Ways) (near far : Configuration → Bool) : Type 0 where
  pub near_is : (c : Configuration) → IsTrue (near c) ↔ HasWay ways c
  pub far_is : (d : Configuration) → IsTrue (far d) ↔ (IsOpened o d × (d.control < p.controls))

module _ {S W Map : Type 0} where
  abbrev pub listed : Side → CoreState S W Map → Option (Entry S W Map) → List (List ℕ)
  listed side st None = []
  listed side st (Some t) = runs_of side st.nodes t.node

  -- the runs of the answer's node, and none where there is no answer
  abbrev pub answer_runs : Side → CoreState S W Map → List (List ℕ)
  answer_runs side st = listed side st (entry_at answer_place st.transitions)

-- The transitions have nodes of runs, and a path of them gives a run.
pub record IsSummable {S W Map : Type 0} (s : Operations W Map) (value : List ℕ → W) (p : Pushdown S W Map) (runs : Place → List ℕ → Type 0) (input : SumInputValue S W Map) (nodes : List Node) : Type 0 where
  pub fits : (run : List ℕ) → Fits s (value run)
  pub control : input.pattern.control < p.controls
  pub gives : (c : Configuration) (xs : List Place) (rs : List (List ℕ)) (to : ℕ) → c.control < p.controls → IsPath xs c.control c.stack to → EachRun runs xs rs
      → IsGiven s value input.side p input.opening c to rs
  pub sound : (t : Entry S W Map) → Present input.transitions t → IsSound s value runs input.side nodes t
  pub shape : HasShape s value input.side (found_so_far input.transitions nodes [])
