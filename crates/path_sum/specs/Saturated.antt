-- An automaton to which nothing is to be added.
use Rattle.std.specs.Prelude.{List, [], IsTrue, IsSome}
use Rattle.semiring_laws.specs.Semiring.{Operations, Below}
use Rattle.weighted_automata.specs.declared.transitions.Entry.{Entry}
use Rattle.weighted_automata.specs.Entries.{entry_at, Present}
use Rattle.witness_graph.specs.declared.node.Node.{Node}
use Rattle.pushdown_rules.specs.Pushdown.{Pushdown}
use Rattle.pushdown_rules.specs.Values.{value_of}
use Rattle.saturation_laws.specs.declared.job.Job.{Job}
use Rattle.saturation_laws.specs.declared.opening.Opening.{Opening}
use Rattle.wpds_base.specs.Lists.{IsIn}
use Rattle.saturation_laws.specs.States.{weight_at}
use Rattle.saturation_laws.specs.Openings.{found_so_far}
use Rattle.saturation_laws.specs.Directions.{IsConsequence}
use Rattle.saturation_laws.specs.Invariants.{IsSound, IsApplied, HasShape}
use Rattle.saturation_laws.specs.Ways.{Way, start_of}

module _ {S W Map D : Type 0} (operations : S → Operations W Map) (way : Way S W Map D) where
  -- These transitions and nodes are a finished saturation of the direction over the system from the opening: what holds of a book's hold of them,
  -- while nothing waits and no hand is out, and each consequence is applied.
  pub record IsSaturatedAutomaton (p : Pushdown S W Map) (d : D) (o : Opening) (ts : List (Entry S W Map)) (nodes : List Node) : Type 0 where
    pub fits : IsTrue (way.fits_opening d p o)
    pub sound : (t : Entry S W Map) → Present ts t → IsSound (operations p.semiring) (value_of (operations p.semiring) p) (way.runs d p o) (way.tables d p).side nodes t
    pub opened : (t : Entry S W Map) → IsIn t (start_of operations way d p o).transitions
        → IsSome (entry_at t.place ts) × Below (operations p.semiring) (weight_at (operations p.semiring) t.place ts) t.weight
    pub applied : (j : Job S W Map) → IsConsequence (way.tables d p) ts j → IsApplied (operations p.semiring) (way.tables d p) ts j
    pub shape : HasShape (operations p.semiring) (value_of (operations p.semiring) p) (way.tables d p).side (found_so_far ts nodes [])
