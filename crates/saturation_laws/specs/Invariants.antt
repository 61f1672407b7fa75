-- What holds of the locked value.
use Rattle.std.specs.Prelude.{◌≡◌, ◌≢◌, ◌⊎◌, ℕ, ◌<◌, List, length, Option, Some, IsSome, IsTrue}
use Rattle.wpds_base.specs.Limits.{most_seats}
use Rattle.semiring_laws.specs.Semiring.{Operations, Below}
use Rattle.weighted_automata.specs.declared.place.Place.{Place}
use Rattle.weighted_automata.specs.declared.transitions.Entry.{Entry}
use Rattle.weighted_automata.specs.Entries.{entry_at, Present, HasDistinctPlaces}
use Rattle.witness_graph.specs.declared.node.Node.{Node}
use Rattle.witness_graph.specs.declared.node.Side.{Side}
use Rattle.witness_graph.specs.Nodes.{AreNodes}
use Rattle.witness_graph.specs.Runs.{runs_of}
use Rattle.witness_graph.specs.Tight.{IsTight}
use Rattle.saturation_laws.specs.declared.job.Job.{Job}
use Rattle.saturation_laws.specs.Jobs.{Tables, row_of, HasInput}
use Rattle.wpds_base.specs.Lists.{IsIn, IsOnce}
use Rattle.saturation_laws.specs.declared.holding.Holding.{Holding}
use Rattle.saturation_laws.specs.States.{CoreState, hand_at, weight_at}
use Rattle.saturation_laws.specs.Directions.{AreRuns, IsConsequence}

module _ {S W Map : Type 0} where
  -- The transition has a node, whose runs are its runs and combine to its weight.
  pub record IsSound (s : Operations W Map) (value : List ℕ → W) (runs : Place → List ℕ → Type 0) (side : Side) (nodes : List Node) (t : Entry S W Map) : Type 0 where
    pub node : t.node < length nodes
    pub are_runs : AreRuns s value runs t.place t.weight (runs_of side nodes t.node)

  -- A job of a hand: a row, of which the taken place is an input.
  pub record IsSoundJob (s : Operations W Map) (value : List ℕ → W) (runs : Place → List ℕ → Type 0) (d : Tables S W Map) (nodes : List Node) (x : Place) (j : Job S W Map) : Type 0 where
    pub row : IsTrue (d.rows (row_of j))
    pub taken : (t : Entry S W Map) × HasInput j t × (t.place ≡ x)
    pub inputs : (t : Entry S W Map) → HasInput j t → IsSound s value runs d.side nodes t

  pub record IsSoundHand (s : Operations W Map) (value : List ℕ → W) (runs : Place → List ℕ → Type 0) (d : Tables S W Map) (st : CoreState S W Map) (h : Holding S W Map) : Type 0 where
    pub place : IsSome (entry_at h.place st.transitions)
    pub jobs : (j : Job S W Map) → IsIn j h.jobs → IsSoundJob s value runs d st.nodes h.place j

  -- the goal lies below the candidate
  abbrev pub IsApplied : Operations W Map → Tables S W Map → List (Entry S W Map) → Job S W Map → Type 0
  IsApplied s d ts j = Below s (weight_at s j.goal ts) (d.candidate j)

  -- an input is queued
  abbrev pub IsWaiting : List Place → Job S W Map → Type 0
  IsWaiting queue j = (t : Entry S W Map) × HasInput j t × IsIn t.place queue

  -- a hand lists the job, with the nodes of its inputs
  abbrev pub IsHeld : List (Option (Holding S W Map)) → Job S W Map → Type 0
  IsHeld hands j = (seat : ℕ) × (h : Holding S W Map) × (hand_at seat hands ≡ Some h) × IsIn j h.jobs

  abbrev pub IsDue : Operations W Map → Tables S W Map → CoreState S W Map → Job S W Map → Type 0
  IsDue s d st j = IsApplied s d st.transitions j ⊎ (IsWaiting st.queue j ⊎ IsHeld st.hands j)

  pub record HasShape (s : Operations W Map) (value : List ℕ → W) (side : Side) (st : CoreState S W Map) : Type 0 where
    pub places : HasDistinctPlaces st.transitions
    pub seats : length st.hands ≡ most_seats
    pub queue : IsOnce st.queue
    pub present : (x : Place) → IsIn x st.queue → IsSome (entry_at x st.transitions)
    pub nodes : AreNodes st.nodes
    pub tight : IsTight s value side st.nodes

  -- What holds whenever the lock is free. `opening` are the transitions that the saturation began with.
  pub record LockInvariant (s : Operations W Map) (value : List ℕ → W) (runs : Place → List ℕ → Type 0) (d : Tables S W Map)
      (opening : List (Entry S W Map)) (st : CoreState S W Map) : Type 0 where
    pub nonzero : (t : Entry S W Map) → Present st.transitions t → t.weight ≢ s.zero
    pub sound : (t : Entry S W Map) → Present st.transitions t → IsSound s value runs d.side st.nodes t
    pub opened : (t : Entry S W Map) → IsIn t opening → IsSome (entry_at t.place st.transitions) × Below s (weight_at s t.place st.transitions) t.weight
    pub closed : (j : Job S W Map) → IsConsequence d st.transitions j → IsDue s d st j
    pub hands : (seat : ℕ) (h : Holding S W Map) → hand_at seat st.hands ≡ Some h → IsSoundHand s value runs d st h
    pub shape : HasShape s value d.side st
