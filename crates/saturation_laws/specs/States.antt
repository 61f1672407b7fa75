-- The state of the core, and what events make of it.
use Rattle.std.specs.Prelude.{◌≢◌, ℕ, All, Bool, false, ◌&&◌, nat_lt, List, [], ◌∷◌, ◌++◌, length, Option, None, Some, is_none, option_map, option_and_then, slice_index_or, slice_set, if◌then◌else◌}
use Rattle.semiring_laws.specs.Semiring.{Operations}
use Rattle.weighted_automata.specs.declared.place.Place.{Place}
use Rattle.weighted_automata.specs.declared.transitions.Entry.{Entry}
use Rattle.weighted_automata.specs.Places.{same_place}
use Rattle.weighted_automata.specs.Entries.{entry_at, lowered}
use Rattle.witness_graph.specs.declared.node.Node.{Node}
use Rattle.witness_graph.specs.declared.node.Node.TheVariants.{Lower}
use Rattle.saturation_laws.specs.declared.job.Job.{Job}
use Rattle.saturation_laws.specs.declared.holding.Holding.{Holding}
use Rattle.saturation_laws.specs.declared.event.Event.{Event}
use Rattle.saturation_laws.specs.declared.event.Event.TheVariants.{Take, Settle, GiveBack}
use Rattle.saturation_laws.specs.Jobs.{Tables, node_of, named_rule, named_first}
use Rattle.saturation_laws.specs.Queues.{queued}

pub record CoreState (S W Map : Type 0) : Type 0 where
  pub transitions : List (Entry S W Map)
  pub nodes : List Node
  pub queue : List Place
  -- by seat
  pub hands : List (Option (Holding S W Map))

-- A weight for a place, with the parts of its runs.
pub record Change (W : Type 0) : Type 0 where
  pub goal : Place
  pub weight : W
  pub rule : Option ℕ
  pub first : Option ℕ
  pub second : Option ℕ

-- by which seat an event is
abbrev pub seat_of : Event → ℕ
seat_of (Take seat x) = seat
seat_of (Settle seat) = seat
seat_of (GiveBack seat) = seat

-- none of the events is by this seat
abbrev pub AreOfOthers : ℕ → List Event → Type 0
AreOfOthers seat es = All (λ e. seat ≢ seat_of e) es

module _ {S W Map : Type 0} where
  abbrev pub hand_at : ℕ → List (Option (Holding S W Map)) → Option (Holding S W Map)
  hand_at seat hands = slice_index_or hands seat None

module _ {S W Map : Type 0} (s : Operations W Map) where
  -- the weight of a transition, and zero of one that is not there
  abbrev pub weight_of : Option (Entry S W Map) → W
  weight_of None = s.zero
  weight_of (Some t) = t.weight

  abbrev pub weight_at : Place → List (Entry S W Map) → W
  weight_at x ts = weight_of (entry_at x ts)

  -- the state where the place has this weight, and a node more
  abbrev pub lower_state : Change W → W → CoreState S W Map → CoreState S W Map
  lower_state c w st = record {
    transitions = lowered c.goal w (length st.nodes) st.transitions;
    nodes = st.nodes ++ Lower (option_map node_of (entry_at c.goal st.transitions)) c.rule c.first c.second ∷ [];
    queue = queued c.goal st.queue;
    hands = st.hands;
  }

  -- the goal's weight combined with the change's. Where that changes the weight, the place is queued.
  abbrev pub apply : Change W → CoreState S W Map → CoreState S W Map
  apply c st =
      let old = weight_at c.goal st.transitions in
      if s.same (s.combine old c.weight) old then st else lower_state c (s.combine old c.weight) st

  abbrev pub apply_all : List (Change W) → CoreState S W Map → CoreState S W Map
  apply_all [] st = st
  apply_all (c ∷ cs) st = apply_all cs (apply c st)

module _ {S W Map : Type 0} (s : Operations W Map) (d : Tables S W Map) where
  abbrev pub change_of : Job S W Map → Change W
  change_of j = record {
    goal = j.goal;
    weight = d.candidate j;
    rule = named_rule j;
    first = option_map node_of (named_first j);
    second = option_map node_of j.second;
  }

  abbrev pub apply_jobs : List (Job S W Map) → CoreState S W Map → CoreState S W Map
  apply_jobs [] st = st
  apply_jobs (j ∷ js) st = apply_jobs js (apply s (change_of j) st)

  -- the jobs of the transition at a place
  abbrev pub jobs_at : Option (Entry S W Map) → List (Entry S W Map) → List (Job S W Map)
  jobs_at None ts = []
  jobs_at (Some t) ts = d.jobs ts t

  abbrev pub without_front : List Place → List Place
  without_front [] = []
  without_front (x ∷ q) = q

  abbrev pub is_front : Place → List Place → Bool
  is_front x [] = false
  is_front x (y ∷ q) = same_place y x

  abbrev pub take : ℕ → Place → CoreState S W Map → CoreState S W Map
  take seat x st = record {
    transitions = st.transitions;
    nodes = st.nodes;
    queue = without_front st.queue;
    hands = slice_set st.hands seat (Some (record { place = x; jobs = jobs_at (entry_at x st.transitions) st.transitions }));
  }

  -- the seat's hand goes
  abbrev pub free : ℕ → CoreState S W Map → CoreState S W Map
  free seat st = record {
    transitions = st.transitions;
    nodes = st.nodes;
    queue = st.queue;
    hands = slice_set st.hands seat None;
  }

  abbrev pub settle : ℕ → Holding S W Map → CoreState S W Map → CoreState S W Map
  settle seat h st = free seat (apply_jobs h.jobs st)

  abbrev pub give_back : ℕ → Holding S W Map → CoreState S W Map → CoreState S W Map
  give_back seat h st = record {
    transitions = st.transitions;
    nodes = st.nodes;
    queue = queued h.place st.queue;
    hands = slice_set st.hands seat None;
  }

  abbrev pub can_take : ℕ → Place → CoreState S W Map → Bool
  can_take seat x st = nat_lt seat (length st.hands) && is_none (hand_at seat st.hands) && is_front x st.queue

  -- the state after an event, where the event is legal
  abbrev pub step : CoreState S W Map → Event → Option (CoreState S W Map)
  step st (Take seat x) = if can_take seat x st then Some (take seat x st) else None
  step st (Settle seat) = option_map (λ h. settle seat h st) (hand_at seat st.hands)
  step st (GiveBack seat) = option_map (λ h. give_back seat h st) (hand_at seat st.hands)

  -- the state after these events
  abbrev pub replay : CoreState S W Map → List Event → Option (CoreState S W Map)
  replay st [] = Some st
  replay st (e ∷ es) = option_and_then (λ m. replay m es) (step st e)
