-- The state that a saturation begins with.
use Rattle.std.specs.Prelude.{ℕ, suc, ◌<◌, List, [], ◌∷◌, ◌++◌, Option, None, Some, replicate, slice_get}
use Rattle.wpds_base.specs.Limits.{most_seats}
use Rattle.semiring_laws.specs.Semiring.{Operations, Fits}
use Rattle.semiring_laws.specs.Lowering.{lowered_weight}
use Rattle.weighted_automata.specs.declared.place.Place.{Place}
use Rattle.weighted_automata.specs.declared.place.Label.TheVariants.{Symbol}
use Rattle.weighted_automata.specs.Entries.{lowered, Present}
use Rattle.weighted_automata.specs.declared.transitions.Entry.{Entry}
use Rattle.witness_graph.specs.declared.node.Node.{Node}
use Rattle.witness_graph.specs.declared.node.Node.TheVariants.{Start}
use Rattle.witness_graph.specs.declared.node.Side.{Side}
use Rattle.witness_graph.specs.declared.node.Side.TheVariants.{Pre, Post}
use Rattle.pushdown_rules.specs.declared.rule.Rule.{Rule}
use Rattle.pushdown_rules.specs.Pushdown.{Pushdown}
use Rattle.saturation_laws.specs.Queues.{queued}
use Rattle.saturation_laws.specs.States.{CoreState, Change, apply_all}

module _ {S W Map : Type 0} where
  -- from a rule's control over its symbol to its target
  abbrev pub head_place : Rule S W Map → Place
  head_place r = record { from = r.control; label = Symbol r.symbol; to = r.to }

  abbrev pub pop_change : ℕ → Rule S W Map → Change W
  pop_change k r = record { goal = head_place r; weight = r.weight; rule = Some k; first = None; second = None }

  -- what the rule of number k adds to the opening: backwards, a pop rule its own transition
  abbrev pub pops_of : ℕ → Rule S W Map → List (Change W)
  pops_of k r = elim r.right [ [] ↦ pop_change k r ∷ [] | g ∷ gs ↦ [] ]

  -- what the rule of number k of these adds
  abbrev pub pops_at : ℕ → List (Rule S W Map) → List (Change W)
  pops_at k rs = elim (slice_get rs k) [ None ↦ [] | Some r ↦ pops_of k r ]

  abbrev pub pops_from : ℕ → List (Rule S W Map) → List (Change W)
  pops_from k [] = []
  pops_from k (r ∷ rs) = pops_of k r ++ pops_from (suc k) rs

  abbrev pub pops : Side → List (Rule S W Map) → List (Change W)
  pops Pre rs = pops_from 0 rs
  pops Post rs = []

module _ {S W Map : Type 0} (s : Operations W Map) where
  -- the state with an edge, which stands for the empty run
  abbrev pub with_edge : Place → CoreState S W Map → CoreState S W Map
  with_edge x st = record { transitions = lowered x s.one 0 st.transitions; nodes = st.nodes; queue = queued x st.queue; hands = st.hands }

  abbrev pub with_edges : List Place → CoreState S W Map → CoreState S W Map
  with_edges [] st = st
  with_edges (x ∷ xs) st = with_edges xs (with_edge x st)

  abbrev pub bare : CoreState S W Map
  bare = record { transitions = []; nodes = Start ∷ []; queue = []; hands = replicate most_seats None }

  abbrev pub opening_state : Side → Pushdown S W Map → List Place → CoreState S W Map
  opening_state side p edges = apply_all s (pops side p.rules) (with_edges edges bare)

  -- each transition has a weight of the semiring and a node below this number
  pub record AreKept (ts : List (Entry S W Map)) (n : ℕ) : Type 0 where
    pub each : (t : Entry S W Map) → Present ts t → Fits s t.weight × (t.node < n)

-- what a weight makes of the one that is there, where it changes it
abbrev pub changed_weight : {W Map : Type 0} → Operations W Map → W → W → Option W
changed_weight s old weight = lowered_weight s old weight

-- a state while it is opened, when no hand is out
abbrev pub found_so_far : {S W Map : Type 0} → List (Entry S W Map) → List Node → List Place → CoreState S W Map
found_so_far ts nodes queue = record { transitions = ts; nodes = nodes; queue = queue; hands = replicate most_seats None }
