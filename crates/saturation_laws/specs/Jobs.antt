-- Jobs, and what a direction makes of a system.
use Rattle.std.specs.Prelude.{◌≡◌, ◌⊎◌, ℕ, Bool, List, Option, None, Some, IfSome, option_map}
use Rattle.semiring_laws.specs.Semiring.{Operations, Fits}
use Rattle.weighted_automata.specs.declared.place.Place.{Place}
use Rattle.weighted_automata.specs.declared.transitions.Entry.{Entry}
use Rattle.witness_graph.specs.declared.node.Side.{Side}
use Rattle.saturation_laws.specs.declared.job.JobKind.{JobKind}
use Rattle.saturation_laws.specs.declared.job.JobKind.TheVariants.{PostEnter, PostLeave}
use Rattle.saturation_laws.specs.declared.job.Job.{Job}

-- A job without the weights and nodes of its inputs.
pub record Row : Type 0 where
  pub kind : JobKind
  pub rule : Option ℕ
  pub frame : Option ℕ
  pub first : Option Place
  pub second : Option Place
  pub goal : Place

-- What a direction makes of a system.
pub record Tables (S W Map : Type 0) : Type 0 where
  pub side : Side
  -- which rows there are
  pub rows : Row → Bool
  pub candidate : Job S W Map → W
  -- the jobs of a transition, over all that are there
  pub jobs : List (Entry S W Map) → Entry S W Map → List (Job S W Map)

module _ {S W Map : Type 0} where
  abbrev pub place_of : Entry S W Map → Place
  place_of t = t.place

  abbrev pub node_of : Entry S W Map → ℕ
  node_of t = t.node

  abbrev pub row_of : Job S W Map → Row
  row_of j = record {
    kind = j.kind;
    rule = j.rule;
    frame = j.frame;
    first = option_map place_of j.first;
    second = option_map place_of j.second;
    goal = j.goal;
  }

  -- the transition is an input of the job
  abbrev pub HasInput : Job S W Map → Entry S W Map → Type 0
  HasInput j t = (j.first ≡ Some t) ⊎ (j.second ≡ Some t)

  pub record InputsFit (s : Operations W Map) (j : Job S W Map) : Type 0 where
    pub first : IfSome j.first (λ t. Fits s t.weight)
    pub second : IfSome j.second (λ t. Fits s t.weight)

  -- the rule that a node names
  abbrev pub named_rule : Job S W Map → Option ℕ
  named_rule j = elim j.kind [ PostLeave ↦ None | _ ↦ j.rule ]

  -- the input that a node names first
  abbrev pub named_first : Job S W Map → Option (Entry S W Map)
  named_first j = elim j.kind [ PostEnter ↦ None | _ ↦ j.first ]
